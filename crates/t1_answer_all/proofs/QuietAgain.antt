-- Once what was found in fonts has become known, another check of them is quiet.
use Rattle.std.proofs.Common.{◌≡◌, ◌⊎◌, ◌<◌, ◌^◌, ◌-◌, ℕ, ◌&&◌, Bool, true, false, true≢false, cond, min, nat_lt, List, [], ◌∷◌, ◌++◌, codes, filter, map, Some, inl, inr, refl, sym, ap, ap₂, subst, ◌∙◌, append_assoc, append-nil, arith}
use Rattle.std.proofs.lemmas.Bool.{and_parts, cases_Bool}
use Rattle.std.proofs.lemmas.Bool.Decides.{nat_tests}
use Rattle.std.proofs.lemmas.Grind.{flat_map-append}
use Rattle.std.proofs.lemmas.List.Sums.{count_by-le-length}
use Rattle.std.specs.List.{AllByRecursion, IsDistinct, flat_map}
use Rattle.std.specs.Str.{bytes_eq}
use Rattle.std.specs.Str.Parse.{digits_value}
use Rattle.t1_many.specs.Told.{all_handed}
use Rattle.t1_answer_all.specs.Modes.{beyond as of_beyond, entry_readings, judges_of, kinds_of, outcome_readings}
use Rattle.t1_known.proofs.KeptRows.{one_key}
use Rattle.t1_known.proofs.ReadRows.{read_in_line}
use Rattle.t1_known.specs.Keys.{count_at, key_of, key_text}
use Rattle.t1_known.specs.Laws.{IsInOneLine, UpdatesAreReached}
use Rattle.t1_known.specs.Readings.{IsPlainKind, IsReadable}
use Rattle.t1_lines.proofs.Cuts.{some_same}
use Rattle.t1_lines.specs.Lines.{FaultLineValue, line_in}
use Rattle.t1_many.proofs.Texts.{equal, itself}
use Rattle.t1_many.specs.Beyond.{verdict_of}
use Rattle.t1_many.specs.Choice.{Choice, is_told}
use Rattle.t1_many.specs.Counting.{all_lines, lines_of}
use Rattle.t1_many.specs.Handing.{found_by, found_of, handed_of, is_told as is_handed}
use Rattle.t1_many.specs.Known.{key_in}
use Rattle.t1_many.specs.KnownFaults.{IsKind, Reading, RowValue, beyond, file_text, found_count, kind_of, kinds_in, known_count, rule_of, updated}
use Rattle.t1_many.specs.Laws.{AreReadings, IsReading, KindsNameTheirRules}
use Rattle.t1_many.specs.Outcomes.{Entry, Outcome, Report, failed, reported}
use Rattle.t1_many.specs.Verdicts.{told_faults}
use Rattle.t1_many.specs.declared.verdict.Verdict.{Verdict}
use Rattle.t1_many.specs.declared.verdict.Verdict.TheVariants.{Known, Skipped}
use Rattle.t1_report.specs.Faults.{FaultValue}
use Rattle.t1_rules.specs.Book.{number_of}
use Rattle.t1_rules.specs.Mask.{has}
use Rattle.t1_rules.specs.declared.mask.Mask.{Mask}
use Rattle.t1_summary.specs.declared.found.FontClass.TheVariants as founds
use Rattle.t1_answer_all.specs.Laws.{AnUpdateIsQuietNextTime, AreChosenBy, IsQuietFont}

-- ---- lists

pub all-append : {X : Type 0} (P : X → Type 0) (a b : List X) → AllByRecursion P a → AllByRecursion P b → AllByRecursion P (a ++ b)
all-append P [] b all_a all_b = all_b
all-append P (x ∷ a) b all_a all_b = (all_a.0, all-append P a b all_a.1 all_b)

halves : {X : Type 0} (P : X → Type 0) (a b : List X) → AllByRecursion P (a ++ b) → AllByRecursion P a × AllByRecursion P b
halves P [] b all = (tt, all)
halves P (x ∷ a) b all = let more = halves P a b all.1 in ((all.0, more.0), more.1)

map_map : {X Y Z : Type 0} (f : Y → Z) (g : X → Y) (xs : List X) → map f (map g xs) ≡ map (λ x. f (g x)) xs
map_map f g [] = refl
map_map f g (x ∷ xs) = ap (λ t. f (g x) ∷ t) (map_map f g xs)

-- Of all that are reported, what a filter leaves none of.
none_left : {X Y : Type 0} (p : Y → Bool) (g : X → Y) (told : X → Bool) (xs : List X) → filter p (map g (filter told xs)) ≡ []
    → AllByRecursion (λ x. told x ≡ true → p (g x) ≡ false) xs
none_left p g told [] e = tt
none_left p g told (x ∷ xs) e = elim (cases_Bool (told x)) [
  | inl is ↦ elim (cases_Bool (p (g x))) [
    | inl kept ↦ (let bad : g x ∷ filter p (map g (filter told xs)) ≡ [] = rw kept at (rw is at e) in cc)
    | inr out ↦
        let more : filter p (map g (filter told xs)) ≡ [] = rw out at (rw is at e) in
        ((λ t. out), none_left p g told xs more)
  ]
  | inr other ↦
      let more : filter p (map g (filter told xs)) ≡ [] = rw other at e in
      ((λ t. absurd (true≢false (sym t ∙ other))), none_left p g told xs more)
]

-- What holds of all that are reported.
told_all : {X Y : Type 0} (P : Y → Type 0) (g : X → Y) (told : X → Bool) (xs : List X) → AllByRecursion P (map g (filter told xs))
    → AllByRecursion (λ x. told x ≡ true → P (g x)) xs
told_all P g told [] all = tt
told_all P g told (x ∷ xs) all = elim (cases_Bool (told x)) [
  | inl is ↦
      let here : AllByRecursion P (g x ∷ map g (filter told xs)) = rw is at all in
      ((λ t. here.0), told_all P g told xs here.1)
  | inr other ↦
      let here : AllByRecursion P (map g (filter told xs)) = rw other at all in
      ((λ t. absurd (true≢false (sym t ∙ other))), told_all P g told xs here)
]

all_map : {X Y : Type 0} (P : Y → Type 0) (g : X → Y) (told : X → Bool) (xs : List X) → ((x : X) → told x ≡ true → P (g x))
    → AllByRecursion P (map g (filter told xs))
all_map P g told [] each = tt
all_map P g told (x ∷ xs) each = elim (cases_Bool (told x)) [
  | inl is ↦ rw is (each x is, all_map P g told xs each)
  | inr other ↦ rw other (all_map P g told xs each)
]

both : {X : Type 0} (P Q R : X → Type 0) (xs : List X) → ((x : X) → P x → Q x → R x) → AllByRecursion P xs → AllByRecursion Q xs
    → AllByRecursion R xs
both P Q R [] each p q = tt
both P Q R (x ∷ xs) each p q = (each x p.0 q.0, both P Q R xs each p.1 q.1)

-- ---- what was found in a font is looked up by its name

skipped : (front more : List Reading) (font : List ℕ) → AllByRecursion (λ (r : Reading). bytes_eq r.font font ≡ false) front
    → kinds_in (front ++ more) font ≡ kinds_in more font
skipped [] more font none = refl
skipped (r ∷ front) more font none = rw none.0 (skipped front more font none.1)

abbrev LooksUp : Mask → List Reading → List ℕ → Outcome → Type 0
LooksUp rules all name (reported report) = kinds_in all name ≡ Some (kinds_of rules report)
LooksUp rules all name (failed reason) = Unit {0}

abbrev NoneOf : List Reading → List Entry → Type 0
NoneOf front entries = AllByRecursion (λ (e : Entry). AllByRecursion (λ (r : Reading). bytes_eq r.font e.name ≡ false) front) entries

head_looked_up : (rules : Mask) (front more : List Reading) (name : List ℕ) (outcome : Outcome)
    → AllByRecursion (λ (r : Reading). bytes_eq r.font name ≡ false) front
    → LooksUp rules (front ++ (outcome_readings rules name outcome ++ more)) name outcome
head_looked_up rules front more name (reported report) none =
    skipped front (outcome_readings rules name (reported report) ++ more) name none ∙ rw (itself name) refl
head_looked_up rules front more name (failed reason) none = tt

more_apart : (rules : Mask) (name : List ℕ) (outcome : Outcome) (entries : List Entry)
    → AllByRecursion (λ y. bytes_eq name y ≡ false) (map (λ (e : Entry). e.name) entries) → NoneOf (outcome_readings rules name outcome) entries
more_apart rules name (reported report) [] apart = tt
more_apart rules name (reported report) (e ∷ es) apart = ((apart.0, tt), more_apart rules name (reported report) es apart.1)
more_apart rules name (failed reason) [] apart = tt
more_apart rules name (failed reason) (e ∷ es) apart = (tt, more_apart rules name (failed reason) es apart.1)

both_apart : (a b : List Reading) (entries : List Entry) → NoneOf a entries → NoneOf b entries → NoneOf (a ++ b) entries
both_apart a b [] none_a none_b = tt
both_apart a b (e ∷ es) none_a none_b =
    (all-append (λ (r : Reading). bytes_eq r.font e.name ≡ false) a b none_a.0 none_b.0, both_apart a b es none_a.1 none_b.1)

looked_up : (rules : Mask) (front : List Reading) (entries : List Entry) → NoneOf front entries
    → IsDistinct bytes_eq (map (λ (e : Entry). e.name) entries)
    → AllByRecursion (λ (e : Entry). LooksUp rules (front ++ flat_map (entry_readings rules) entries) e.name e.outcome) entries
unfolding IsDistinct
looked_up rules front [] none once = tt
looked_up rules front (e ∷ es) none once = (
  head_looked_up rules front (flat_map (entry_readings rules) es) e.name e.outcome none.0,
  subst (λ all. AllByRecursion (λ (x : Entry). LooksUp rules all x.name x.outcome) es)
      (append_assoc front (entry_readings rules e) (flat_map (entry_readings rules) es))
      (looked_up rules (front ++ entry_readings rules e) es
      (both_apart front (entry_readings rules e) es none.1 (more_apart rules e.name e.outcome es once.0)) once.1),
)

-- ---- keys

same_key : (row : RowValue) (kind font : List ℕ) → IsKind row.kind → IsKind kind
    → bytes_eq (key_text kind font) (key_of row) ≡ (bytes_eq row.font font && bytes_eq row.kind kind)
same_key row kind font is kind_is = elim (cases_Bool (bytes_eq (key_text kind font) (key_of row))) [
  | inl same ↦
      let parts = one_key kind font row.kind row.font kind_is is (equal (key_text kind font) (key_of row) same) in
      let fonts : bytes_eq row.font font ≡ true = subst (λ f. bytes_eq row.font f ≡ true) (sym parts.1) (itself row.font) in
      let kinds : bytes_eq row.kind kind ≡ true = subst (λ k. bytes_eq row.kind k ≡ true) (sym parts.0) (itself row.kind) in
      rw (same, fonts, kinds) refl
  | inr other ↦ elim (cases_Bool (bytes_eq row.font font && bytes_eq row.kind kind)) [
    | inl all ↦
        let parts = and_parts _ _ all in
        let fonts : row.font ≡ font = equal row.font font parts.0 in
        let kinds : row.kind ≡ kind = equal row.kind kind parts.1 in
        let keys : key_of row ≡ key_text kind font = ap₂ key_text kinds fonts in
        absurd (true≢false (sym (itself (key_text kind font)) ∙ ap (bytes_eq (key_text kind font)) (sym keys) ∙ other))
    | inr not_both ↦ rw (other, not_both) refl
  ]
]

count_is : (rows : List RowValue) (kind font : List ℕ) → AllByRecursion IsInOneLine rows → IsKind kind
    → count_at rows (key_text kind font) ≡ known_count rows font kind
count_is [] kind font in_line is = refl
count_is (row ∷ rows) kind font in_line is =
    ap₂ (λ b n. cond b (digits_value 10 row.count) n) (same_key row kind font in_line.0.is.kind is) (count_is rows kind font in_line.1 is)

-- ---- one font

quiet_count : (c n : ℕ) → nat_lt c n ≡ false → n < 2 ^ 64 → nat_lt (min c (2 ^ 64 - 1)) n ≡ false
quiet_count c n e few = grind (arith, nat_tests, e, few)

abbrev IsQuietVerdict : Verdict → Type 0
IsQuietVerdict verdict = (verdict ≡ Known) ⊎ (verdict ≡ Skipped)

quiet_verdict : (told more : Bool) → (told ≡ true → more ≡ false) → IsQuietVerdict (verdict_of told more)
quiet_verdict true more quiet = let none : more ≡ false = quiet refl in rw none (inl refl)
quiet_verdict false more quiet = inr refl

none_handed : (judges : FaultValue → Verdict) (faults : List FaultValue) → AllByRecursion (λ f. IsQuietVerdict (judges f)) faults
    → filter (λ f. is_handed (judges f)) faults ≡ []
none_handed judges [] all = refl
none_handed judges (f ∷ fs) all = elim all.0 [
  | inl known ↦ rw known (none_handed judges fs all.1)
  | inr left ↦ rw left (none_handed judges fs all.1)
]

quiet_found : (judges : FaultValue → Verdict) (faults : List FaultValue) → AllByRecursion (λ f. IsQuietVerdict (judges f)) faults
    → (found_by judges faults ≡ founds.Clean) ⊎ (found_by judges faults ≡ founds.Known)
quiet_found judges [] all = inl refl
quiet_found judges (f ∷ fs) all = elim all.0 [
  | inl known ↦ elim (quiet_found judges fs all.1) [
    | inl clean ↦ inr (rw (known, clean) refl)
    | inr same ↦ inr (rw (known, same) refl)
  ]
  | inr left ↦ elim (quiet_found judges fs all.1) [
    | inl clean ↦ inl (rw (left, clean) refl)
    | inr same ↦ inr (rw (left, same) refl)
  ]
]

module _ (rules : Mask) (known : List RowValue) (in_line : AllByRecursion IsInOneLine known) (name : List ℕ) (report : Report)
    (readable : IsReadable (record { font = name; kinds = kinds_of rules report })) where
  abbrev told : FaultValue → Bool
  told fault = has rules (number_of fault.rule)

  abbrev line_of : FaultValue → FaultLineValue
  line_of fault = line_in report.font report.waivers fault

  abbrev lines : List FaultLineValue
  lines = map line_of (told_faults rules report.faults)

  kinds_are : kinds_of rules report ≡ map kind_of lines
  kinds_are = sym (map_map kind_of line_of (told_faults rules report.faults))

  few : (kind : List ℕ) → found_count (kinds_of rules report) kind < 2 ^ 64
  few kind =
      let most = count_by-le-length (bytes_eq kind) (kinds_of rules report) in
      let bound = readable.few in
      omega (arith, most, bound)

  judged : beyond known name lines ≡ [] → AllByRecursion (λ f. IsQuietVerdict (judges_of (of_beyond known) rules name report f)) report.faults
  judged none =
      both (λ f. told f ≡ true → nat_lt (known_count known name (kind_of (line_of f))) (found_count (map kind_of lines) (kind_of (line_of f))) ≡ false)
      (λ f. told f ≡ true → IsPlainKind (kind_of (line_of f))) (λ f. IsQuietVerdict (judges_of (of_beyond known) rules name report f)) report.faults
      (λ f quiet plain.
      quiet_verdict (told f) _ (λ is.
      let kind = kind_of (line_of f) in
      let count : count_at known (key_in name report.font report.waivers f) ≡ known_count known name kind =
      ap (count_at known) (ap (λ t. kind ++ (codes " " ++ t)) (append-nil name)) ∙ count_is known kind name in_line (plain is).0 in
      let more : nat_lt (known_count known name kind) (found_count (kinds_of rules report) kind) ≡ false =
      subst (λ k. nat_lt (known_count known name kind) (found_count k kind) ≡ false) (sym kinds_are) (quiet is) in
      rw count (quiet_count (known_count known name kind) (found_count (kinds_of rules report) kind) more (few kind))))
      (none_left (λ l. nat_lt (known_count known name (kind_of l)) (found_count (map kind_of lines) (kind_of l))) line_of told report.faults none)
      (told_all IsPlainKind (λ f. kind_of (line_of f)) told report.faults readable.kinds)

-- ---- all fonts

module _ (rules : Mask) (known : List RowValue) (in_line : AllByRecursion IsInOneLine known) where
  abbrev judges : List ℕ → Report → FaultValue → Verdict
  judges = judges_of (of_beyond known) rules

  -- What is found of one font.
  abbrev IsQuietOne : Entry → Type 0
  IsQuietOne entry = (flat_map lines_of (handed_of (judges entry.name) entry.name entry.outcome) ≡ [])
      × IsQuietFont entry.outcome (found_of (judges entry.name) entry.outcome)

  quiet_one : (all : List Reading) (name : List ℕ) (outcome : Outcome) → LooksUp rules all name outcome
      → AllByRecursion IsReadable (outcome_readings rules name outcome)
      → ((font : List ℕ) (lines : List FaultLineValue) → kinds_in all font ≡ Some (map kind_of lines) → beyond known font lines ≡ [])
      → (flat_map lines_of (handed_of (judges name) name outcome) ≡ []) × IsQuietFont outcome (found_of (judges name) outcome)
  quiet_one all name (reported report) at readable none =
      let lines = map (line_in report.font report.waivers) (told_faults rules report.faults) in
      let found : kinds_in all name ≡ Some (map kind_of lines) = at ∙ ap Some (kinds_are rules known in_line name report readable.0) in
      let quiet = judged rules known in_line name report readable.0 (none name lines found) in
      (rw (none_handed (judges name report) report.faults quiet) refl, quiet_found (judges name report) report.faults quiet)
  quiet_one all name (failed reason) at readable none = (refl, refl)

  quiet_all : (all : List Reading) (entries : List Entry) → AllByRecursion (λ (e : Entry). LooksUp rules all e.name e.outcome) entries
      → AllByRecursion IsReadable (flat_map (entry_readings rules) entries)
      → ((font : List ℕ) (lines : List FaultLineValue) → kinds_in all font ≡ Some (map kind_of lines) → beyond known font lines ≡ [])
      → AllByRecursion IsQuietOne entries
  quiet_all all [] at readable none = tt
  quiet_all all (e ∷ es) at readable none =
      let parts = halves IsReadable (entry_readings rules e) (flat_map (entry_readings rules) es) readable in
      (quiet_one all e.name e.outcome at.0 parts.0 none, quiet_all all es at.1 parts.1 none)

  no_lines : (entries : List Entry) → AllByRecursion IsQuietOne entries → all_lines (all_handed judges entries) ≡ []
  no_lines [] quiet = refl
  no_lines (e ∷ es) quiet =
      flat_map-append lines_of (handed_of (judges e.name) e.name e.outcome) (all_handed judges es)
      ∙ ap₂ (λ a b. a ++ b) quiet.0.0 (no_lines es quiet.1)

  quiet_founds : (entries : List Entry) → AllByRecursion IsQuietOne entries
      → AllByRecursion (λ (e : Entry). IsQuietFont e.outcome (found_of (judges e.name) e.outcome)) entries
  quiet_founds [] quiet = tt
  quiet_founds (e ∷ es) quiet = (quiet.0.1, quiet_founds es quiet.1)

-- Whatever holds of all that was found holds of what is looked up.
reading_at : (P : List (List ℕ) → Type 0) (readings : List Reading) (font : List ℕ) (kinds : List (List ℕ))
    → AllByRecursion (λ (r : Reading). P r.kinds) readings → kinds_in readings font ≡ Some kinds → P kinds
reading_at P [] font kinds all at = cc
reading_at P (r ∷ readings) font kinds all at = elim (cases_Bool (bytes_eq r.font font)) [
  | inl same ↦ (let here : Some r.kinds ≡ Some kinds = rw same at at in subst P (some_same r.kinds kinds here) all.0)
  | inr other ↦ (let there : kinds_in readings font ≡ Some kinds = rw other at at in reading_at P readings font kinds all.1 there)
]

module _ (choice : Choice) (rules : Mask) (chosen : AreChosenBy choice rules) (name_rules : KindsNameTheirRules) where
  told_kinds : (name : List ℕ) (outcome : Outcome) → AllByRecursion IsReadable (outcome_readings rules name outcome)
      → AllByRecursion (λ (r : Reading). IsReading choice r.kinds) (outcome_readings rules name outcome)
  told_kinds name (reported report) readable = (
    record {
      told = all_map (λ kind. is_told choice (rule_of kind) ≡ true) (λ f. kind_of (line_in report.font report.waivers f))
          (λ f. has rules (number_of f.rule)) report.faults
          (λ f is. ap (is_told choice) (name_rules (line_in report.font report.waivers f)) ∙ sym (chosen f.rule) ∙ is);
      few = readable.0.few;
    },
    tt,
  )
  told_kinds name (failed reason) readable = tt

  are_readings : (entries : List Entry) → AllByRecursion IsReadable (flat_map (entry_readings rules) entries)
      → AllByRecursion (λ (r : Reading). IsReading choice r.kinds) (flat_map (entry_readings rules) entries)
  are_readings [] readable = tt
  are_readings (e ∷ es) readable =
      let parts = halves IsReadable (entry_readings rules e) (flat_map (entry_readings rules) es) readable in
      all-append (λ (r : Reading). IsReading choice r.kinds) (entry_readings rules e) (flat_map (entry_readings rules) es)
      (told_kinds e.name e.outcome parts.0) (are_readings es parts.1)

none_of : (entries : List Entry) → NoneOf [] entries
none_of [] = tt
none_of (e ∷ es) = (tt, none_of es)

pub quiet_again : UpdatesAreReached → KindsNameTheirRules → AnUpdateIsQuietNextTime
quiet_again reached name_rules choice rules entries text rows known chosen can before after =
    let readings = flat_map (entry_readings rules) entries in
    let are : AreReadings choice readings =
    λ font kinds at. reading_at (IsReading choice) readings font kinds (are_readings choice rules chosen name_rules entries can.readable) at in
    let is = reached choice readings text rows before can.readable are known after in
    let in_line = read_in_line (file_text (updated choice readings rows)) known after.each in
    let quiet =
    quiet_all rules known in_line readings entries (looked_up rules [] entries (none_of entries) can.once) can.readable is.lines in
    record {
      lines = no_lines rules known in_line entries quiet;
      rows = is.rows;
      founds = quiet_founds rules known in_line entries quiet;
    }
