use Rattle.std.proofs.Common.{ap, sym, subst, length, ◌<◌, ◌∙◌}
use Rattle.t1_char.specs.Effects.{goes, calls, returns, finishes}
use Rattle.t1_char.specs.Private.Actions.{IsNested, action_of}
use Rattle.t1_char.specs.Private.Listings.{run_from, state_in, steps_in, IsListing}
use Rattle.t1_char.proofs.Additions.{Called}
use Rattle.t1_char.proofs.Listed.{behind_call, listing_goes, listing_returns, listing_finishes, listing_calls, takes_as, call_fills, call_finishes, call_goes_on, path_back}
use Rattle.t1_char.proofs.expansion.Listing.+list.Goals as goal
use Rattle.t1_char.proofs.expansion.Listing.+list.Goals.{in-Goes, in-Calls+in_ok-finished-in-Calls+else-is_full-2+else-finished}

pub returns-in-Returns-clause-listed : goal.returns-in-Returns-clause-listed
returns-in-Returns-clause-listed t c =
    let e = c.in_ok-taken.ensures in
    listing_returns c.args.self.now c.args.cursor c.loop-left.self c.loop-left.left _ c.in_ok-taken.taken.behind c.take_one.new.self c.loop-left.invariant
    (takes_as c.loop-left.self c.loop-left.left _ _ returns c.in_ok-taken.taken.behind c.take_one.new.self (ap action_of c.in-Returns.is) e.tokens e.step
    e.effect e.room e.numbered e.path e.font e.most)

pub returns-in-Finishes-clause-listed : goal.returns-in-Finishes-clause-listed
returns-in-Finishes-clause-listed t c =
    let e = c.in_ok-taken.ensures in
    listing_finishes c.args.self.now c.args.cursor c.loop-left.self c.loop-left.left _ c.in_ok-taken.taken.behind c.take_one.new.self c.loop-left.invariant
    (takes_as c.loop-left.self c.loop-left.left _ _ finishes c.in_ok-taken.taken.behind c.take_one.new.self (ap action_of c.in-Finishes.is) e.tokens e.step
    e.effect e.room e.numbered e.path e.font e.most)

pub returns-then-is_full-2-clause-listed : goal.returns-then-is_full-2-clause-listed
returns-then-is_full-2-clause-listed t c =
    let e = c.in_ok-taken.ensures in
    let added = c.in_ok-finished-in-Calls.ensures in
    let subr = c.in-Calls.subr in
    let action = ap action_of c.in-Calls.is in
    let took = takes_as c.loop-left.self c.loop-left.left c.in_ok-taken.taken.token _ (calls subr.number subr.code.now) c.in_ok-taken.taken.behind
    c.take_one.new.self action e.tokens e.step e.effect e.room e.numbered e.path e.font e.most in
    let called = listing_calls c.args.self.now c.args.cursor c.loop-left.self c.loop-left.left _ subr.number subr.code.now c.in_ok-taken.taken.behind
    c.take_one.new.self c.cursor_at.result c.push.new.self.items (steps_in c.list.new.self)
    c.in_ok-finished-in-Calls.finished (state_in c.list.new.self)
    c.loop-left.invariant took (subst (IsNested (length c.loop-left.self.path.items)) action e.nested) c.push.ensures.items c.cursor_at.ensures added.listed in
    call_fills c.args.self.now c.args.cursor c.loop-left.self c.in_ok-taken.taken.behind c.list.new.self _
    (added.most ∙ e.most ∙ c.loop-left.invariant.most) c.if-is_full-2.ensures called

pub returns-then-finished-clause-listed : goal.returns-then-finished-clause-listed
returns-then-finished-clause-listed t c =
    let e = c.in_ok-taken.ensures in
    let added = c.in_ok-finished-in-Calls.ensures in
    let subr = c.in-Calls.subr in
    let action = ap action_of c.in-Calls.is in
    let took = takes_as c.loop-left.self c.loop-left.left c.in_ok-taken.taken.token _ (calls subr.number subr.code.now) c.in_ok-taken.taken.behind
    c.take_one.new.self action e.tokens e.step e.effect e.room e.numbered e.path e.font e.most in
    let called = listing_calls c.args.self.now c.args.cursor c.loop-left.self c.loop-left.left _ subr.number subr.code.now c.in_ok-taken.taken.behind
    c.take_one.new.self c.cursor_at.result c.push.new.self.items (steps_in c.list.new.self)
    c.in_ok-finished-in-Calls.finished (state_in c.list.new.self)
    c.loop-left.invariant took (subst (IsNested (length c.loop-left.self.path.items)) action e.nested) c.push.ensures.items c.cursor_at.ensures added.listed in
    call_finishes c.args.self.now c.args.cursor c.loop-left.self c.in_ok-taken.taken.behind c.list.new.self
    (added.most ∙ e.most ∙ c.loop-left.invariant.most) c.if-is_full-2.ensures
    (subst (λ b. Called c.args.self.now.most (steps_in c.args.self.now) (run_from c.args.self.now c.args.cursor) (steps_in c.list.new.self) b
    (state_in c.list.new.self) (behind_call c.loop-left.self c.in_ok-taken.taken.behind)) c.if-finished.true called)

pub loop-left-preserved : goal.loop-left-preserved
loop-left-preserved t c =
    let e = c.in_ok-taken.ensures in
    let taken = c.in_ok-taken.taken in
    elim c.match-taken.branch [
      | in-Goes w ↦
          subst (λ s. IsListing c.args.self.now c.args.cursor s taken.behind) (sym w.self-is)
          (listing_goes c.args.self.now c.args.cursor c.loop-left.self c.loop-left.left _ taken.behind c.take_one.new.self c.loop-left.invariant
          (takes_as c.loop-left.self c.loop-left.left taken.token _ goes taken.behind c.take_one.new.self (ap action_of w.in-Goes.is) e.tokens e.step e.effect
          e.room e.numbered e.path e.font e.most))
      | in-Calls+in_ok-finished-in-Calls+else-is_full-2+else-finished w ↦
          let added = w.in_ok-finished-in-Calls.ensures in
          let subr = w.in-Calls.subr in
          let action = ap action_of w.in-Calls.is in
          let took = takes_as c.loop-left.self c.loop-left.left taken.token _ (calls subr.number subr.code.now) taken.behind c.take_one.new.self action e.tokens
          e.step e.effect e.room e.numbered e.path e.font e.most in
          let called = listing_calls c.args.self.now c.args.cursor c.loop-left.self c.loop-left.left _ subr.number subr.code.now taken.behind
          c.take_one.new.self w.cursor_at.result w.push.new.self.items (steps_in w.list.new.self)
          w.in_ok-finished-in-Calls.finished (state_in w.list.new.self)
          c.loop-left.invariant took (subst (IsNested (length c.loop-left.self.path.items)) action e.nested) w.push.ensures.items
          w.cursor_at.ensures added.listed in
          let open_call = subst (λ b. Called c.args.self.now.most (steps_in c.args.self.now) (run_from c.args.self.now c.args.cursor) (steps_in w.list.new.self)
          b (state_in w.list.new.self) (behind_call c.loop-left.self taken.behind)) w.if-finished.false called in
          let most = added.most ∙ e.most ∙ c.loop-left.invariant.most in
          let pushed = added.path w.if-finished.false (subst (λ m. length w.list.new.self.steps.items < m) added.most w.if-is_full-2.ensures)
          ∙ w.push.ensures.items in
          let back = path_back c.take_one.new.self.path.items w.list.new.self.path.items subr.number w.pop.new.self.items pushed w.pop.ensures.rest ∙ e.path in
          subst (λ s. IsListing c.args.self.now c.args.cursor s taken.behind) (sym w.self-is)
          (call_goes_on c.args.self.now c.args.cursor c.loop-left.self taken.behind (record w.list.new.self { path = w.pop.new.self }) most
          w.if-is_full-2.ensures added.numbered back (added.font ∙ e.font) c.loop-left.invariant.path c.loop-left.invariant.font open_call)
    ]
