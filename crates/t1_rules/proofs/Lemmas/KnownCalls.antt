-- A step calls at most one of the OtherSubrs of flex and hint replacement.
use Rattle.std.proofs.Common.{◌≡◌, if◌then◌else◌, Bool, true, false, refl, sym, ◌∙◌}
use Rattle.t1_char.specs.declared.argument.OthersubrCall.{OthersubrCall}
use Rattle.t1_char.specs.declared.argument.OthersubrCall.TheVariants.{FlexEnd, FlexStart, FlexPoint, HintReplacement, Other}
use Rattle.t1_char.specs.Arguments.{is_flex_end, is_flex_point, is_flex_start, is_hint_replacement, othersubr_call}
use Rattle.t1_char.specs.Steps.{StepView}
use Rattle.t1_rules.proofs.Lemmas.FlexPairs.{is_other}
use Rattle.t1_rules.proofs.Lemmas.OthersubrCalls.{is_called}

-- The first of four tests that holds.
abbrev first_of : Bool → Bool → Bool → Bool → OthersubrCall
first_of end start point replacement =
    if end then FlexEnd else (if start then FlexStart else (if point then FlexPoint else (if replacement then HintReplacement else Other)))

ends_by : (e s p r : Bool) → first_of e s p r ≡ FlexEnd → e ≡ true
ends_by true s p r is = refl
ends_by false true p r is = cc
ends_by false false true r is = cc
ends_by false false false true is = cc
ends_by false false false false is = cc

pub ends : (call : OthersubrCall) (t : StepView) → call ≡ othersubr_call t → call ≡ FlexEnd → true ≡ is_flex_end t
ends call t known is = sym (ends_by (is_flex_end t) (is_flex_start t) (is_flex_point t) (is_hint_replacement t) (sym known ∙ is))

ends_none_by : (e s p r : Bool) → (first_of e s p r ≡ FlexEnd → ⊥) → e ≡ false
ends_none_by true s p r not_is = absurd (not_is refl)
ends_none_by false s p r not_is = refl

pub ends_none : (call : OthersubrCall) (t : StepView) → call ≡ othersubr_call t → (call ≡ FlexEnd → ⊥) → false ≡ is_flex_end t
ends_none call t known not_is =
    sym (ends_none_by (is_flex_end t) (is_flex_start t) (is_flex_point t) (is_hint_replacement t) (λ is. not_is (known ∙ is)))

starts_by : (e s p r : Bool) → first_of e s p r ≡ FlexStart → s ≡ true
starts_by e true p r is = refl
starts_by true false p r is = cc
starts_by false false true r is = cc
starts_by false false false true is = cc
starts_by false false false false is = cc

pub starts : (call : OthersubrCall) (t : StepView) → call ≡ othersubr_call t → call ≡ FlexStart → true ≡ is_flex_start t
starts call t known is = sym (starts_by (is_flex_end t) (is_flex_start t) (is_flex_point t) (is_hint_replacement t) (sym known ∙ is))

starts_none_by : (e s p r : Bool) → (s ≡ true → e ≡ false) → (first_of e s p r ≡ FlexStart → ⊥) → s ≡ false
starts_none_by e false p r apart not_is = refl
starts_none_by false true p r apart not_is = absurd (not_is refl)
starts_none_by true true p r apart not_is = let no : true ≡ false = apart refl in cc

pub starts_none : (call : OthersubrCall) (t : StepView) → call ≡ othersubr_call t → (call ≡ FlexStart → ⊥) → false ≡ is_flex_start t
starts_none call t known not_is =
    sym
    (starts_none_by (is_flex_end t) (is_flex_start t) (is_flex_point t) (is_hint_replacement t)
    (λ is. is_other 0 3 t _ (is_called 1 0 t is).top refl) (λ is. not_is (known ∙ is)))

gives_point_by : (e s p r : Bool) → first_of e s p r ≡ FlexPoint → p ≡ true
gives_point_by e s true r is = refl
gives_point_by true s false r is = cc
gives_point_by false true false r is = cc
gives_point_by false false false true is = cc
gives_point_by false false false false is = cc

pub gives_point : (call : OthersubrCall) (t : StepView) → call ≡ othersubr_call t → call ≡ FlexPoint → true ≡ is_flex_point t
gives_point call t known is = sym (gives_point_by (is_flex_end t) (is_flex_start t) (is_flex_point t) (is_hint_replacement t) (sym known ∙ is))

gives_no_point_by : (e s p r : Bool) → (p ≡ true → e ≡ false) → (p ≡ true → s ≡ false) → (first_of e s p r ≡ FlexPoint → ⊥) → p ≡ false
gives_no_point_by e s false r no_end no_start not_is = refl
gives_no_point_by false false true r no_end no_start not_is = absurd (not_is refl)
gives_no_point_by false true true r no_end no_start not_is = let no : true ≡ false = no_start refl in cc
gives_no_point_by true s true r no_end no_start not_is = let no : true ≡ false = no_end refl in cc

pub gives_no_point : (call : OthersubrCall) (t : StepView) → call ≡ othersubr_call t → (call ≡ FlexPoint → ⊥) → false ≡ is_flex_point t
gives_no_point call t known not_is =
    sym
    (gives_no_point_by (is_flex_end t) (is_flex_start t) (is_flex_point t) (is_hint_replacement t)
    (λ is. is_other 0 3 t _ (is_called 2 0 t is).top refl) (λ is. is_other 1 0 t _ (is_called 2 0 t is).top refl)
    (λ is. not_is (known ∙ is)))

replaces_by : (e s p r : Bool) → first_of e s p r ≡ HintReplacement → r ≡ true
replaces_by e s p true is = refl
replaces_by true s p false is = cc
replaces_by false true p false is = cc
replaces_by false false true false is = cc
replaces_by false false false false is = cc

pub replaces : (call : OthersubrCall) (t : StepView) → call ≡ othersubr_call t → call ≡ HintReplacement → true ≡ is_hint_replacement t
replaces call t known is = sym (replaces_by (is_flex_end t) (is_flex_start t) (is_flex_point t) (is_hint_replacement t) (sym known ∙ is))

replaces_none_by : (e s p r : Bool) → (r ≡ true → e ≡ false) → (r ≡ true → s ≡ false) → (r ≡ true → p ≡ false)
    → (first_of e s p r ≡ HintReplacement → ⊥) → r ≡ false
replaces_none_by e s p false no_end no_start no_point not_is = refl
replaces_none_by false false false true no_end no_start no_point not_is = absurd (not_is refl)
replaces_none_by false false true true no_end no_start no_point not_is = let no : true ≡ false = no_point refl in cc
replaces_none_by false true p true no_end no_start no_point not_is = let no : true ≡ false = no_start refl in cc
replaces_none_by true s p true no_end no_start no_point not_is = let no : true ≡ false = no_end refl in cc

pub replaces_none : (call : OthersubrCall) (t : StepView) → call ≡ othersubr_call t → (call ≡ HintReplacement → ⊥) → false ≡ is_hint_replacement t
replaces_none call t known not_is =
    sym
    (replaces_none_by (is_flex_end t) (is_flex_start t) (is_flex_point t) (is_hint_replacement t)
    (λ is. is_other 0 3 t _ (is_called 3 1 t is).top refl) (λ is. is_other 1 0 t _ (is_called 3 1 t is).top refl)
    (λ is. is_other 2 0 t _ (is_called 3 1 t is).top refl) (λ is. not_is (known ∙ is)))
