-- What is given for each option: by words, as clap's rules read them, or by words and settings together.
use Rattle.std.specs.Prelude.{Bool, nat_lt, List, [], Option, map, option_map, unwrap_or, codes}
use Rattle.clap.specs.Words.{Row, Text, all_of, count_of, first_of, matches_of}
use Rattle.t1_options.specs.CommandLine.{t1check_all}
use Rattle.t1_options.specs.declared.given.Given.{Given}

pub record GivenValue : Type 0 where
  pub quiet : Bool
  pub jobs : Option Text
  pub edition : Option Text
  pub only : List Text
  pub except : List Text
  pub level : List Text
  pub fail_on : List Text
  pub no_waivers : Bool
  pub write_waivers : Bool
  pub force : Bool
  pub baseline : Option Text
  pub update_baseline : Bool
  pub files_from : List Text
  pub exclude : List Text
  pub shard : Option Text
  pub format : Option Text
  pub docs : Option Text
  pub clean : Bool
  pub columns : Option Text
  pub colour : Bool
  pub long : Bool
  pub reasons : Bool
  pub no_reasons : Bool
  pub no_settings : Bool
  pub explain : Bool
  pub version : Bool
  pub paths : List Text

-- The flag was given.
abbrev pub is_in : List Row → Text → Bool
is_in rows id = nat_lt 0 (count_of id rows)

-- All values of an option.
abbrev pub values_in : List Row → Text → List Text
values_in rows id = unwrap_or (all_of id rows) []

-- What the matches say.
abbrev pub given_in : List Row → GivenValue
given_in rows = record {
  quiet = is_in rows (codes "quiet");
  jobs = first_of (codes "jobs") rows;
  edition = first_of (codes "edition") rows;
  only = values_in rows (codes "only");
  except = values_in rows (codes "except");
  level = values_in rows (codes "level");
  fail_on = values_in rows (codes "fail-on");
  no_waivers = is_in rows (codes "no-waivers");
  write_waivers = is_in rows (codes "write-waivers");
  force = is_in rows (codes "force");
  baseline = first_of (codes "baseline") rows;
  update_baseline = is_in rows (codes "update-baseline");
  files_from = values_in rows (codes "files-from");
  exclude = values_in rows (codes "exclude");
  shard = first_of (codes "shard") rows;
  format = first_of (codes "format") rows;
  docs = first_of (codes "docs") rows;
  clean = is_in rows (codes "clean");
  columns = first_of (codes "columns") rows;
  colour = is_in rows (codes "colour");
  long = is_in rows (codes "long");
  reasons = is_in rows (codes "reasons");
  no_reasons = is_in rows (codes "no-reasons");
  no_settings = is_in rows (codes "no-settings");
  explain = is_in rows (codes "explain");
  version = is_in rows (codes "show-version");
  paths = values_in rows (codes "path");
}

-- What these words say.
abbrev pub given_by : List Text → GivenValue
given_by words = given_in (matches_of t1check_all words)

-- A value of the program, by what its references lead to.
abbrev pub given_value : Given → GivenValue
given_value g = record {
  quiet = g.quiet;
  jobs = option_map (λ s. s.now) g.jobs;
  edition = option_map (λ s. s.now) g.edition;
  only = map (λ s. s.now) g.only.now;
  except = map (λ s. s.now) g.except.now;
  level = map (λ s. s.now) g.level.now;
  fail_on = map (λ s. s.now) g.fail_on.now;
  no_waivers = g.no_waivers;
  write_waivers = g.write_waivers;
  force = g.force;
  baseline = option_map (λ s. s.now) g.baseline;
  update_baseline = g.update_baseline;
  files_from = map (λ s. s.now) g.files_from.now;
  exclude = map (λ s. s.now) g.exclude.now;
  shard = option_map (λ s. s.now) g.shard;
  format = option_map (λ s. s.now) g.format;
  docs = option_map (λ s. s.now) g.docs;
  clean = g.clean;
  columns = option_map (λ s. s.now) g.columns;
  colour = g.colour;
  long = g.long;
  reasons = g.reasons;
  no_reasons = g.no_reasons;
  no_settings = g.no_settings;
  explain = g.explain;
  version = g.version;
  paths = map (λ s. s.now) g.paths.now;
}
