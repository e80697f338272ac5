-- Lines of JSON: what is written of things that are handed on.
use Rattle.std.specs.Prelude.{◌≡◌, ℕ, Bool, true, List, [], codes, Option, None, Some}
use Rattle.t1_forms.specs.Objects.{font_line, object_line}
use Rattle.t1_forms.specs.Tellings.{ToldValue}
use Rattle.t1_io.specs.Devices.{SinkState}
use Rattle.t1_many.specs.Handing.{Handed}
use Rattle.t1_many.specs.Plain.{IsLinePut}
use Rattle.t1_many.specs.declared.policy.Lost.{Lost}
use Rattle.t1_printers.specs.Formatting.{Formatting, Output}
use Rattle.t1_printers.specs.Streams.{IsStreamed, Stream}
use Rattle.t1_printers.specs.declared.json_lines.JsonLines.{JsonLines}
use Rattle.t1_summary.specs.declared.found.FontClass.{FontClass}
use Rattle.t1_summary.specs.declared.found.FontClass.TheVariants.{Clean, Known}

-- The object of what is reported was put.
abbrev pub object_written : {T : Type 0} → Output T → Output T → ToldValue → Option Lost → Type 0
object_written old new told lost = IsLinePut old.out new.out (object_line told) lost × (new.formatter ≡ old.formatter)

-- The object of a font of which no line is reported, where such fonts have one.
abbrev pub clean_object : Bool → List ℕ → FontClass → Option (List ℕ)
clean_object true name Clean = Some (font_line name (codes "clean") (codes "clean"))
clean_object true name Known = Some (font_line name (codes "known") (codes "known faults alone"))
clean_object _ name found = None

-- It was put, if there is one.
abbrev pub IsPutIfAny : SinkState → SinkState → Option (List ℕ) → Option Lost → Type 0
IsPutIfAny old new None lost = (new ≡ old) × (lost ≡ None)
IsPutIfAny old new (Some text) lost = IsLinePut old new text lost

abbrev pub clean_written : Output JsonLines → Output JsonLines → List ℕ → FontClass → Option Lost → Type 0
clean_written old new name found lost =
    IsPutIfAny old.out new.out (clean_object old.formatter.clean name found) lost × (new.formatter ≡ old.formatter)

abbrev pub text_or_none : Option (List ℕ) → List ℕ
text_or_none None = []
text_or_none (Some text) = text

-- Each object, one after another. The form stays as it is.
abbrev pub object_stream : Bool → Stream JsonLines
object_stream reasons = record {
  reasons = reasons;
  telling = λ json told. object_line told;
  after = λ json told. json;
  ending = λ json name found. text_or_none (clean_object json.clean name found);
  after_font = λ json name found. json;
}

abbrev pub AreObjects : Bool → Formatting JsonLines → Formatting JsonLines → List Handed → Option Lost → Type 0
AreObjects reasons = IsStreamed (object_stream reasons) (λ json. json)
