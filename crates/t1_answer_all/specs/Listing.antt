-- The fonts that options name.
use Rattle.std.specs.Prelude.{◌≡◌, ◌≢◌, ◌≤◌, ◌-◌, ℕ, List, [], map, string_bytes, Option, None, Some}
use Rattle.std.specs.List.{AllZip}
use Rattle.std.specs.Str.{chars}
use Rattle.t1_answer_all.specs.Unlisted.{unlisted_told}
use Rattle.t1_forms.specs.Tellings.{ToldValue}
use Rattle.t1_many.specs.Shards.{part_of}
use Rattle.t1_names.specs.Globs.{Glob, IsRead}
use Rattle.t1_names.specs.Named.{AreNamed}
use Rattle.t1_options.specs.declared.asked.Options.{Options}
use Rattle.t1_options.specs.declared.asked.Shard.{Shard}
use Rattle.t1_options.specs.Settings.Finding.{System}
use Rattle.t1_answer_all.specs.Usage.{no_font_text}
use Rattle.t1_answer_all.specs.Words.{AreRead, CannotReadOne, undecoded_of, words_of}
use Rattle.t1_answer_all.specs.declared.listing.Fonts.{Fonts}

-- Fonts, and what couldn't be listed.
pub record FontsValue : Type 0 where
  pub names : List (List ℕ)
  pub unsearched : List (List ℕ)
  pub undecoded : ℕ

abbrev pub fonts_value : Fonts → FontsValue
fonts_value fonts = record {
  names = map string_bytes fonts.names.items;
  unsearched = map string_bytes fonts.unsearched.items;
  undecoded = fonts.undecoded;
}

-- What is reported of it.
abbrev pub unlisted_of : FontsValue → List ToldValue
unlisted_of fonts = unlisted_told fonts.undecoded fonts.unsearched

-- The glob that a text is.
abbrev pub IsGlobOf : List ℕ → Glob → Type 0
IsGlobOf text glob = IsRead (chars text) glob

-- The whole list: the lists are read first, and these are the fonts that their words and those of the command line name.
pub record AreNamedBy (system : System) (options : Options) (fonts : FontsValue) : Type 0 where
  pub texts : List (List ℕ)
  pub between : system.State
  pub read : AreRead system.asks.ReadsList system.old between (map string_bytes options.files_from.items) texts
  pub globs : List Glob
  pub globs_are : AllZip IsGlobOf (map string_bytes options.exclude.items) globs
  pub named :
      AreNamed system.asks.Leads system.asks.Lists between system.new (words_of (map string_bytes options.paths.items) texts) globs fonts.names fonts.unsearched
  pub undecoded_is : fonts.undecoded ≡ undecoded_of (map string_bytes options.paths.items) texts

-- The part of a list that is checked. A shard of options is one of its parts.
abbrev pub IsPartOf : Option Shard → List (List ℕ) → List (List ℕ) → Type 0
IsPartOf None all part = part ≡ all
IsPartOf (Some shard) all part = 1 ≤ shard.part → shard.part ≤ shard.parts → part ≡ part_of shard.parts all (shard.part - 1)

-- The fonts that are checked: a part of a list that isn't empty.
pub record AreFonts (system : System) (options : Options) (fonts : FontsValue) : Type 0 where
  pub all : List (List ℕ)
  pub named : AreNamedBy system options (record fonts { names = all })
  pub some : all ≢ []
  pub part : IsPartOf options.shard all fonts.names

-- The list has no font, and this is printed.
pub record NamesNone (system : System) (options : Options) (told : List ℕ) : Type 0 where
  pub fonts : FontsValue
  pub named : AreNamedBy system options fonts
  pub none : fonts.names ≡ []
  pub told_is : told ≡ no_font_text

-- A list can't be read, or there is no font, and this is printed.
pub data HasNoFonts (system : System) (options : Options) (told : List ℕ) : Type 0 where
  unread : CannotReadOne system (map string_bytes options.files_from.items) told → HasNoFonts system options told
  none : NamesNone system options told → HasNoFonts system options told
