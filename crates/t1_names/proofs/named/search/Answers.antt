use Rattle.std.proofs.Common.{[], ap, refl, ◌++◌, ◌∷◌, map, string_bytes, subst, sym, take}
use Rattle.t1_names.proofs.NamedLemmas.{more_fonts, more_unsearched, names_next}
use Rattle.t1_names.proofs.named.search.Goals as goal
use Rattle.t1_names.specs.Named.{EachStandsFor, Found, StandsFor}
use Rattle.t1_names.specs.Named.EachStandsFor.{none, one_more}

pub loop-word-init : goal.loop-word-init
loop-word-init g c = (
  [],
  none c.args.files.now,
  ap (map string_bytes) c.new-fonts.ensures.items,
  ap (map string_bytes) c.new-unsearched.ensures.items,
)

pub loop-word-preserved : goal.loop-word-preserved
loop-word-preserved g c =
    let leads = g.F.FileSystem.asks.Leads in
    let lists = g.F.FileSystem.asks.Lists in
    let (founds, all, fonts, unsearched) = c.loop-word.invariant in
    let one : Found = record { fonts = map string_bytes c.in_ok-found.found.fonts.items; unsearched = map string_bytes c.in_ok-found.found.unsearched.items } in
    let is : StandsFor leads lists c.loop-word.files c.stand_for.new.files (string_bytes c.word-item.result) one =
    subst (λ w. StandsFor leads lists c.loop-word.files c.stand_for.new.files w one) c.as_str.ensures.value c.in_ok-found.ensures in (
      founds ++ one ∷ [],
      subst (λ ns. EachStandsFor leads lists c.args.files.now c.stand_for.new.files ns (founds ++ one ∷ []))
          (sym (names_next string_bytes c.args.words.now c.loop-word.word-index c.word-item.result c.loop-word-test.true c.word-item.is))
          (one_more c.args.files.now c.loop-word.files c.stand_for.new.files (map string_bytes (take c.loop-word.word-index c.args.words.now)) founds
          (string_bytes c.word-item.result) one all is),
      more_fonts founds one c.loop-word.fonts.items c.in_ok-found.found.fonts.items c.take.new.names.items c.in_ok-take.ensures refl fonts,
      more_unsearched founds one c.loop-word.unsearched.items c.in_ok-found.found.unsearched.items c.take-in-loop-word.new.names.items c.in_ok-take-2.ensures refl
          unsearched,
    )
