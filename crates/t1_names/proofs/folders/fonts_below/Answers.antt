use Rattle.std.proofs.Common.{◌≡◌, ◌-◌, ◌^◌, ◌++◌, ◌∷◌, [], List, Ok, String, Global, ap, arith, map, string_bytes, subst, sym, ◌∙◌}
use Rattle.std.proofs.lemmas.List.{map-append, nil_from_length}
use Rattle.t1_names.proofs.FolderLemmas.{after_listed, in_order_below, more_missed, no_more}
use Rattle.t1_names.proofs.folders.fonts_below.Goals as goal
use Rattle.t1_names.specs.Folders.{AreBelow, folders_in, fonts_in}
use Rattle.t1_names.specs.Folders.AreBelow.{none, too_many}

pub returns-in_default : goal.returns-in_default
returns-in_default g c =
    let lists = g.F.FileSystem.asks.Lists in
    let files = c.loop-listed.files in
    let empty : c.loop-listed.pending.items ≡ [] = nil_from_length c.loop-listed.pending.items (sym c.loop-listed.pending.ok.0 ∙ c.in_default.ensures.cases.0) in
    in_order_below lists c.args.files.now c.args.folder.now files c.in_order.result (map string_bytes c.loop-listed.fonts.items)
    (map string_bytes c.loop-listed.unsearched.items) c.in_order.ensures.fonts c.in_order.ensures.unsearched
    (no_more lists c.args.files.now c.args.folder.now files (map string_bytes c.loop-listed.fonts.items) (map string_bytes c.loop-listed.unsearched.items)
    (c.loop-listed.invariant files [] []
    (subst (λ (ps : List (String Global)). AreBelow lists files files c.loop-listed._listed (map string_bytes ps) [] []) (sym empty)
    (none files c.loop-listed._listed))))

pub loop-listed-preserved : goal.loop-listed-preserved
loop-listed-preserved g c =
    let lists = g.F.FileSystem.asks.Lists in
    after_listed lists c.args.files.now c.args.folder.now c.loop-listed.files c.list_folder.new.self c.loop-listed._listed
    (omega (arith, c.loop-listed-test.true, c.loop-listed.auto._listed-end)) _ (map string_bytes c.loop-listed.fonts.items)
    (map string_bytes c.loop-listed.unsearched.items) (map string_bytes c.pop.new.self.items) _ _ _
    (string_bytes c.in-Some.folder) c.in_ok-listing.listing c.loop-listed.invariant
    (ap (map string_bytes) c.in-Some.ensures.items ∙ map-append string_bytes c.pop.new.self.items (c.in-Some.folder ∷ []))
    (subst (λ n. lists c.loop-listed.files c.list_folder.new.self n (Ok c.in_ok-listing.listing)) c.as_str.ensures.value
    (rw c.in_ok-listing.was at c.list_folder.ensures))
    (subst (λ n. map string_bytes c.take_entries.new.folders.items ≡ map string_bytes c.pop.new.self.items ++ folders_in n c.in_ok-listing.listing.entries.items)
    c.as_str-in-loop-listed.ensures.value c.in_ok-take_entries.ensures.folders)
    (subst (λ n. map string_bytes c.take_entries.new.fonts.items ≡ map string_bytes c.loop-listed.fonts.items ++ fonts_in n c.in_ok-listing.listing.entries.items)
    c.as_str-in-loop-listed.ensures.value c.in_ok-take_entries.ensures.fonts)
    c.in_ok-take_unsearched.ensures

pub returns : goal.returns
returns g c =
    let lists = g.F.FileSystem.asks.Lists in
    let files = c.loop-listed.files in
    let last : 2 ^ 64 - 1 ≡ c.loop-listed._listed = omega (arith, c.loop-listed-test.false, c.loop-listed.auto._listed-end) in
    in_order_below lists c.args.files.now c.args.folder.now files c.in_order-2.result (map string_bytes c.loop-listed.fonts.items)
    (map string_bytes c.append.new.self.items) c.in_order-2.ensures.fonts c.in_order-2.ensures.unsearched
    (more_missed lists c.args.files.now c.args.folder.now files (map string_bytes c.loop-listed.fonts.items) c.loop-listed.unsearched.items
    c.loop-listed.pending.items c.append.new.self.items c.in_ok-append.ensures.items
    (c.loop-listed.invariant files [] (map string_bytes c.loop-listed.pending.items)
    (subst (λ n. AreBelow lists files files n (map string_bytes c.loop-listed.pending.items) [] (map string_bytes c.loop-listed.pending.items)) last
    (too_many files (map string_bytes c.loop-listed.pending.items)))))
