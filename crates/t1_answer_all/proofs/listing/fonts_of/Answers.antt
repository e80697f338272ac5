use Rattle.std.proofs.Common.{ap, map, refl, string_bytes, sym, ◌∙◌}
use Rattle.t1_answer_all.proofs.Lists.{empty_names, named_by, some_names}
use Rattle.t1_answer_all.proofs.Told.{told_so}
use Rattle.t1_answer_all.proofs.listing.fonts_of.Goals as goal
use Rattle.t1_answer_all.specs.Listing.{HasNoFonts}
use Rattle.t1_answer_all.specs.Listing.HasNoFonts.{none}
use Rattle.t1_options.specs.Settings.Finding.{system_by}

pub returns-then-is_empty-clause-none : goal.returns-then-is_empty-clause-none
returns-then-is_empty-clause-none g c =
    let asks = g.F.FileSystem.asks in
    told_so (HasNoFonts (system_by asks c.args.system.now c.fonts_named.new.files) c.args.options.now) _ _ c.no_font.ensures (none (record {
      fonts = record {
        names = map string_bytes c.in_ok-named.named.names.items;
        unsearched = map string_bytes c.in_ok-named.named.unsearched.items;
        undecoded = c.in_ok-words.words.undecoded;
      };
      named =
          named_by asks c.args.system.now c.all_words.new.system c.fonts_named.new.files c.args.options.now _ _ _ (ap (map string_bytes) c.as_slice.ensures.value) (ap (map string_bytes) c.as_slice-2.ensures.value)
          (ap (map string_bytes) c.as_slice-3.ensures.value) c.in_ok-words.words c.in_ok-words.ensures.words c.in_ok-globs.globs.items
          c.in_ok-globs.ensures _ (ap (map string_bytes) c.as_slice-4.ensures.value) _ c.as_slice-5.ensures.value _ _ c.in_ok-named.ensures;
      none = empty_names c.in_ok-named.named.names.items _ c.in_ok-named.named.names.ok.0 (sym c.is_empty.ensures ∙ c.if-is_empty.true);
      told_is = refl;
    }))

pub returns-clause-fonts : goal.returns-clause-fonts
returns-clause-fonts g c =
    let asks = g.F.FileSystem.asks in
    record {
      all = map string_bytes c.in_ok-named.named.names.items;
      named =
          named_by asks c.args.system.now c.all_words.new.system c.fonts_named.new.files c.args.options.now _ _ _ (ap (map string_bytes) c.as_slice.ensures.value) (ap (map string_bytes) c.as_slice-2.ensures.value)
          (ap (map string_bytes) c.as_slice-3.ensures.value) c.in_ok-words.words c.in_ok-words.ensures.words c.in_ok-globs.globs.items
          c.in_ok-globs.ensures _ (ap (map string_bytes) c.as_slice-4.ensures.value) _ c.as_slice-5.ensures.value _ _ c.in_ok-named.ensures;
      some = some_names c.in_ok-named.named.names.items _ c.in_ok-named.named.names.ok.0 (sym c.is_empty.ensures ∙ c.if-is_empty.false);
      part = c.in_ok-part_of.ensures;
    }
