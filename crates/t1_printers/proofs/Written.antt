-- What was written of things that were handed on.
-- The bytes of one thing come right after those of the things before it; where a write fails they are a prefix.
use Rattle.std.proofs.Common.{◌≡◌, ◌-◌, ℕ, true, Bool, List, [], ◌∷◌, ◌++◌, Option, None, Some, ap, arith, inl, inr, length, refl, subst, sym, ◌∙◌}
use Rattle.std.proofs.lemmas.Option.{none-some}
use Rattle.std.specs.Io.KnownBytes.{Appends}
use Rattle.t1_printers.proofs.GroupTails.{IsGroup, tail_is}
use Rattle.t1_printers.proofs.HandedSeen.{handed_seen, takes_on}
use Rattle.t1_printers.proofs.HeldGroups.{AreGroups, line_held, lines_are_held, none_held}
use Rattle.t1_printers.specs.Commands.{command_writing, group_command, group_message, message_room}
use Rattle.t1_printers.specs.GroupLines.{Writing, group_lines, rule_head}
use Rattle.t1_printers.specs.Grouping.{GroupedTakes, Grouping, TellsFailure, told, untold}
use Rattle.t1_printers.specs.Groups.{GroupValue}
use Rattle.t1_printers.specs.Held.{HeldLine, held_line, held_text}
use Rattle.t1_printers.specs.RuleGroups.{with_line}
use Rattle.t1_printers.specs.Terminals.{room_after, terminal_lines, terminal_writing}
use Rattle.t1_printers.specs.Units.{NamedUnit, names_of}
use Rattle.t1_printers.specs.Widths.{width_of}
use Rattle.t1_printers.specs.Writings.{Wording, command_wording, failure_words, held_after, terminal_wording, text_after, text_of_one}
use Rattle.t1_io.specs.Devices.{AppendsFront}
use Rattle.t1_font.specs.declared.unread.RefusalCode.{RefusalCode}
use Rattle.t1_many.proofs.PlainLines.{front-all, front-none, line_printed, none-same, none_printed, stopped_printed, then_printed}
use Rattle.t1_many.specs.Handing.{Handed, HandsOn, done, failure, line}
use Rattle.t1_many.specs.Plain.{ArePrinted, IsLinePut, failure_told, tellings, told_of}
use Rattle.t1_many.specs.declared.policy.Lost.{Lost}
use Rattle.t1_many.specs.declared.policy.Lost.TheVariants.{Device, Memory}
use Rattle.t1_rules.specs.declared.rule.Rule.{Rule}
use Rattle.t1_many.specs.FontErrors.{reason_of}
use Rattle.t1_many.specs.Unchecked.{unchecked_line}
use Rattle.t1_many.specs.declared.font_error.FontError.{FontError}
use Rattle.t1_many.specs.declared.font_error.FontError.TheVariants.{Refused, Unchecked}
use Rattle.t1_run.specs.Opening.{Sinks}
use Rattle.t1_summary.specs.declared.found.FontClass.{FontClass}

-- A form writes of groups what is worded of their lines.
pub record IsWorded (writing : Writing) (wording : Wording) : Type 0 where
  pub reasons : writing.reasons ≡ wording.reasons
  pub line :
      (name : List ℕ) (rule : Rule) (units : List NamedUnit) (g : GroupValue) → IsGroup writing.room units g
      → writing.line name rule g ≡ wording.line name rule (length units) (names_of units) g.reason
  pub refusal : (name : List ℕ) (code : RefusalCode) → writing.refusal name code ≡ wording.refusal name code
  pub unchecked : (name reason : List ℕ) → writing.unchecked name reason ≡ wording.unchecked name reason

pub terminal_worded : (width : ℕ) (has_colours reasons : Bool)
    → IsWorded (terminal_writing width has_colours reasons) (terminal_wording width has_colours reasons)
terminal_worded width has_colours reasons = record {
  reasons = refl;
  line = λ name rule units g is. ap (λ t. terminal_lines width has_colours name rule t g.reason)
      (tail_is width (room_after width name - width_of (rule_head rule)) units g is (omega arith));
  refusal = λ name code. refl;
  unchecked = λ name reason. refl;
}

pub commands_worded : (reasons : Bool) → IsWorded (command_writing reasons) (command_wording reasons)
commands_worded reasons = record {
  reasons = refl;
  line = λ name rule units g is. ap (λ t. group_command name rule (group_message rule t g.reason))
      (tail_is message_room (message_room - width_of (rule_head rule)) units g is (omega arith));
  refusal = λ name code. refl;
  unchecked = λ name reason. refl;
}

-- ---- one thing

silent-half : (old new : Sinks) (text says : List ℕ) → new ≡ old → ArePrinted old new text says (Some Memory)
silent-half old new text says same = (
  front-none old.out.written new.out.written text (none-same old.out new.out (ap (λ (s : Sinks). s.out) same)),
  front-none old.errors.written new.errors.written says (none-same old.errors new.errors (ap (λ (s : Sinks). s.errors) same)),
  inl refl,
)

module _ (writing : Writing) (wording : Wording) (is : IsWorded writing wording) where
  failure-out : (old new : Grouping) (name : List ℕ) (reason : FontError) (lost : Option Lost) → TellsFailure writing old new name reason lost
      → ArePrinted old.sinks new.sinks (failure_words wording name reason) (failure_told name reason) lost
  failure-out old new name (Refused code) lost (put, same) =
      line_printed old.sinks new.sinks (wording.refusal name code) [] lost
      (subst (λ t. IsLinePut old.sinks.out new.sinks.out t lost) (is.refusal name code) put) (none-same old.sinks.errors new.sinks.errors same)
  failure-out old new name (Unchecked why) lost (told wrote put) =
      line_printed old.sinks new.sinks (wording.unchecked name (reason_of why)) (unchecked_line name (reason_of why)) lost
      (subst (λ t. IsLinePut old.sinks.out new.sinks.out t lost) (is.unchecked name (reason_of why)) put) wrote.bytes
  failure-out old new name (Unchecked why) lost (untold broke same none) =
      subst (ArePrinted old.sinks new.sinks (wording.unchecked name (reason_of why)) (unchecked_line name (reason_of why))) (sym none) (
        front-none old.sinks.out.written new.sinks.out.written (wording.unchecked name (reason_of why)) (none-same old.sinks.out new.sinks.out same),
        broke.front,
        inr (inr broke.failed),
      )

  lines-are : (name : List ℕ) (held : List HeldLine) (groups : List GroupValue) → AreGroups writing.room held groups
      → group_lines (writing.line name) groups ≡ held_text (wording.line name) held
  lines-are name held groups are = lines_are_held writing.room held groups (writing.line name) (wording.line name) (is.line name) are

  -- it was taken
  one : (held : List HeldLine) (old new : Grouping) (handed : Handed) → AreGroups writing.room held old.groups → GroupedTakes writing old new handed None
      → ArePrinted old.sinks new.sinks (text_of_one wording held handed) (told_of handed) None
      × AreGroups writing.room (held_after wording.reasons held handed) new.groups
  one held old new (line name font waivers fault) are (silent, groups) = (
    none_printed old.sinks new.sinks None silent refl,
    subst (AreGroups writing.room (held ++ held_line wording.reasons font waivers fault ∷ []))
        (sym (groups ∙ ap (λ reasons. with_line old.groups (held_line reasons font waivers fault)) is.reasons))
        (line_held writing.room held old.groups are (held_line wording.reasons font waivers fault)),
  )
  one held old new (failure name reason) are (tells, groups) =
      (failure-out old new name reason None tells, subst (AreGroups writing.room held) (sym groups) are)
  one held old new (done name found) are (delivered, errors, groups) = (
    (
      subst (Appends old.sinks.out.written new.sinks.out.written) (lines-are name held old.groups are) delivered.bytes,
      none-same old.sinks.errors new.sinks.errors errors,
    ),
    subst (AreGroups writing.room []) (sym groups) (none_held writing.room),
  )

  -- or it stopped there
  half : (held : List HeldLine) (old new : Grouping) (handed : Handed) (lost : Lost) → AreGroups writing.room held old.groups
      → GroupedTakes writing old new handed (Some lost)
      → ArePrinted old.sinks new.sinks (text_of_one wording held handed) (told_of handed) (Some lost)
  half held old new (line name font waivers fault) Device are never = absurd never
  half held old new (line name font waivers fault) Memory are silent = silent-half old.sinks new.sinks [] [] silent
  half held old new (failure name reason) lost are (tells, groups) = failure-out old new name reason (Some lost) tells
  half held old new (done name found) Device are (broke, errors) = (
    subst (AppendsFront old.sinks.out.written new.sinks.out.written) (lines-are name held old.groups are) broke.front,
    front-all old.sinks.errors.written new.sinks.errors.written [] (none-same old.sinks.errors new.sinks.errors errors),
    inr (inl broke.failed),
  )
  half held old new (done name found) Memory are silent = silent-half old.sinks new.sinks (held_text (wording.line name) held) [] silent

  -- ---- all of them

  pub written : (held : List HeldLine) (old new : Grouping) (handed : List Handed) (lost : Option Lost) → AreGroups writing.room held old.groups
      → HandsOn (GroupedTakes writing) old new handed lost
      → ArePrinted old.sinks new.sinks (text_after wording held handed) (tellings handed) lost
  written held old new [] lost are (same, none) = none_printed old.sinks new.sinks lost (ap (λ (g : Grouping). g.sinks) same) none
  written held old new (handed ∷ more) lost are (inl (next, took, rest)) =
      let first = one held old next handed are took in
      then_printed old.sinks next.sinks new.sinks (text_of_one wording held handed) (text_after wording (held_after wording.reasons held handed) more)
      (told_of handed) (tellings more) lost first.0 (written (held_after wording.reasons held handed) next new more lost first.1 rest)
  written held old new (handed ∷ more) lost are (inr (reason, took, why)) =
      subst (ArePrinted old.sinks new.sinks (text_after wording held (handed ∷ more)) (tellings (handed ∷ more))) (sym why)
      (stopped_printed old.sinks new.sinks (text_of_one wording held handed) (text_after wording (held_after wording.reasons held handed) more)
      (told_of handed) (tellings more) reason (half held old new handed reason are took))

-- after the last font nothing waits to be flushed
pub flushed : (writing : Writing) (old new : Grouping) (handed : List Handed) (name : List ℕ) (found : FontClass)
    → HandsOn (GroupedTakes writing) old new (handed ++ done name found ∷ []) None → new.sinks.out.flushed ≡ true
flushed writing old new [] name found (inl (next, (delivered, errors, groups), (same, none))) =
    subst (λ (g : Grouping). g.sinks.out.flushed ≡ true) (sym same) delivered.waits
flushed writing old new [] name found (inr (reason, took, is)) = absurd (none-some reason is)
flushed writing old new (handed ∷ more) name found (inl (next, took, rest)) = flushed writing next new more name found rest
flushed writing old new (handed ∷ more) name found (inr (reason, took, is)) = absurd (none-some reason is)

-- ---- a form, of which the devices and the groups are seen

module _ {F T : Type 0} (form : F → T) (writes : T → Writing) (view : Writing → F → Grouping) where
  pub seen : (old new : F) (handed : List Handed) (lost : Option Lost)
      → HandsOn (takes_on (λ t. GroupedTakes (writes t)) form (λ t. view (writes t))) old new handed lost
      → HandsOn (GroupedTakes (writes (form old))) (view (writes (form old)) old) (view (writes (form old)) new) handed lost
  seen = handed_seen (λ t. GroupedTakes (writes t)) form (λ t. view (writes t))
