-- The glyphs that are drawn: the one that was requested, and the components of its seac. Type 1 Font Format 1.1, chapter 6.
use Rattle.std.specs.Prelude.{ℕ, ◌-◌, ◌^◌, Bool, Option, None, Some, is_some, unwrap_or, List, [], ◌∷◌, ◌++◌, codes, map, String, string_bytes}
use Rattle.std.specs.declared.alloc.Global.{Global}
use Rattle.std.specs.Fmt.{decimal}
use Rattle.std.specs.Option.{option_map}
use Rattle.t1_font.specs.Fonts.{FontValue, glyph_name}
use Rattle.t1_outline.specs.declared.composition.Composition.{Composition}
use Rattle.t1_outline.specs.declared.parts.Part.{Part}
use Rattle.t1_outline.specs.declared.parts.SeacPart.{SeacPart}
use Rattle.t1_outline.specs.declared.parts.SeacPart.TheVariants.{NoCode, NoGlyph, NoName, There}
use Rattle.t1_outline.specs.declared.parts.SeacParts.{SeacParts}
use Rattle.t1_outline.specs.Parts.{composition_of, seac_parts_in}
use Rattle.t1_picture.specs.declared.drawing.Drawing.{Drawing}
use Rattle.t1_picture.specs.Layers.{LayersView, layers_view, no_layers}
use Rattle.t1_picture.specs.Parts.{PartView, drawn_steps, last_step_of, note_if, part_notes, with_part}
use Rattle.t1_picture.specs.Subjects.{Subject, step_of}
use Rattle.t1_forms.specs.Xml.{legible}
use Rattle.t1_rules.specs.StandardEncoding.{standard_name}
use Rattle.t1_rules.specs.StepRules.Flex.{origin}

-- Without a step all are drawn: no glyph has so many.
abbrev pub all_steps : ℕ
all_steps = 2 ^ 64 - 1

-- The glyph itself.
abbrev pub own_part : Subject → PartView
own_part s =
    record {
      font = s.font;
      edition = s.edition;
      glyph = s.glyph;
      origin = origin;
      last = unwrap_or (step_of s) all_steps;
      thick = step_of s;
      label = [];
    }

abbrev pub own_composition : Subject → Composition
own_composition s = composition_of (drawn_steps (own_part s))

abbrev pub components_of : Subject → Option SeacParts
components_of s = seac_parts_in s.font (own_composition s)

-- A component of its seac, by what it is called: base or accent.
abbrev pub label_of : FontValue → List ℕ → ℕ → List ℕ
label_of font called glyph = called ++ (codes " " ++ (legible (glyph_name font glyph) ++ codes ": "))

abbrev pub component_part : Subject → List ℕ → Part → PartView
component_part s label part =
    record {
      font = s.font;
      edition = s.edition;
      glyph = part.glyph;
      origin = part.origin;
      last = all_steps;
      thick = None;
      label = label;
    }

abbrev pub called_part : Subject → List ℕ → Part → PartView
called_part s called part = component_part s (label_of s.font called part.glyph) part

abbrev pub with_component : Subject → List ℕ → SeacPart → LayersView → LayersView
with_component s called (There part) l = with_part (called_part s called part) l
with_component s called _ l = l

-- What isn't drawn of a component: a part of it, its own seac, or all of it, since it isn't there.
abbrev pub has_seac : PartView → Bool
has_seac part = is_some (composition_of (drawn_steps part)).seac

abbrev pub seac_note : List ℕ → List ℕ
seac_note label = label ++ codes "its own seac draws nothing"

abbrev pub notes_of_part : PartView → List (List ℕ)
notes_of_part part = part_notes part ++ note_if (has_seac part) (seac_note part.label)

abbrev pub missing_note : List ℕ → SeacPart → List ℕ
missing_note called (There part) = []
missing_note called NoCode = called ++ codes " isn't drawn: its code is not 0 to 255"
missing_note called (NoName code) = called ++ (codes " " ++ (decimal code ++ codes " isn't drawn: not in StandardEncoding"))
missing_note called (NoGlyph code) =
    called ++ (codes " " ++ (standard_name code ++ codes " isn't drawn: no such glyph"))

abbrev pub component_notes : Subject → List ℕ → SeacPart → List (List ℕ)
component_notes s called (There part) = notes_of_part (called_part s called part)
component_notes s called missing = missing_note called missing ∷ []

abbrev pub with_components : Subject → Option SeacParts → LayersView → LayersView
with_components s None l = l
with_components s (Some seac) l =
    with_component s (codes "accent") seac.accent (with_component s (codes "base") seac.base l)

abbrev pub notes_of_components : Subject → Option SeacParts → List (List ℕ)
notes_of_components s None = []
notes_of_components s (Some seac) =
    component_notes s (codes "base") seac.base ++ component_notes s (codes "accent") seac.accent

-- What is drawn, and what there is to say of it.
pub record DrawingView : Type 0 where
  pub layers : LayersView
  pub notes : List (List ℕ)
  pub composition : Composition
  pub last_step : Option (List ℕ)

abbrev pub texts_of : List (String Global) → List (List ℕ)
texts_of texts = map string_bytes texts

abbrev pub drawing_view : Drawing → DrawingView
drawing_view d =
    record {
      layers = layers_view d.layers;
      notes = texts_of d.notes.items;
      composition = d.composition;
      last_step = option_map string_bytes d.last_step;
    }

abbrev pub drawing_of : Subject → DrawingView
drawing_of s =
    record {
      layers = with_components s (components_of s) (with_part (own_part s) no_layers);
      notes = part_notes (own_part s) ++ notes_of_components s (components_of s);
      composition = own_composition s;
      last_step = last_step_of (own_part s);
    }
