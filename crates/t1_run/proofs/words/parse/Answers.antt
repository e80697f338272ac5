use Rattle.std.proofs.Common.{inl, inr, map, refl, subst, sym}
use Rattle.clap.specs.Kinds.{HasKind, IsAmong, Kinds}
use Rattle.clap.specs.Words.{app_of, fault_of, kind_of}
use Rattle.t1_run.specs.Words.{IsHelpOrMemory}
use Rattle.t1_run.proofs.Commands.{has_value, is_number, ours}
use Rattle.t1_run.proofs.SingleFault.{fault_of-single, single-among}
use Rattle.t1_run.proofs.words.parse.Goals as goal

pub returns-in-Ok-clause-parsed : goal.returns-in-Ok-clause-parsed
returns-in-Ok-clause-parsed g c =
    let our = ours (app_of c.args.command) c.requires.plain c.args.command refl in
    record {
      rows = (c.in-Ok.ensures.matches c.requires.plain.simple).0;
      number = λ low high id is. is_number our c.in-Ok.matches c.in-Ok.ensures.parsed low high id is;
      required = λ id is. has_value our c.in-Ok.matches c.in-Ok.ensures.parsed id is;
      sound = c.in-Ok.ensures.kinds c.requires.plain.free;
    }

pub returns-in-Err-clause-refused : goal.returns-in-Err-clause-refused
returns-in-Err-clause-refused g c =
    let app = app_of c.args.command in
    let words = map g.S.AsStr.text c.args.words.now in
    let faults : HasKind (fault_of app words) c.in-Err.error = c.in-Err.ensures.kinds c.requires.plain.free in
    let as_memory = c.usage_error.ensures.memory in
    record {
      taken = λ takes. as_memory (c.in-Err.ensures.passes takes);
      faultless = λ none. elim faults [
        | inl memory ↦ as_memory memory
        | inr among ↦ absurd (subst (λ (kinds : Kinds). IsAmong (kind_of c.in-Err.error) kinds) none among)
      ];
      text = c.usage_error.ensures.text;
      help = λ asks. elim faults [
        | inl memory ↦ subst IsHelpOrMemory (sym (as_memory memory)) tt
        | inr among ↦ elim (subst (λ (kinds : Kinds). IsAmong (kind_of c.in-Err.error) kinds) asks among) [
          | inl help ↦ c.usage_error.ensures.help help
          | inr never ↦ absurd never
        ]
      ];
      only_help = λ help.
          let is_help = c.usage_error.ensures.only_help help in
          elim faults [
            | inl memory ↦ cc
            | inr among ↦ single-among (fault_of app words) _ (fault_of-single app c.requires.plain words) (rw is_help at among)
          ];
    }
