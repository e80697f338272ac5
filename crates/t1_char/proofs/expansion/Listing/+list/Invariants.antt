use Rattle.std.proofs.Common.{◌-◌, length}
use Rattle.t1_char.specs.Private.Cursors.{tokens_left}
use Rattle.t1_char.specs.Private.Listings.{IsListing}
use Rattle.t1_char.proofs.expansion.Listing.+list.Given as goal

abbrev pub decreases-list : goal.decreases-list
decreases-list l = 11 - length l.self.now.path.items

abbrev pub invariant-loop-left : goal.invariant-loop-left
invariant-loop-left l = IsListing l.fn.self l.fn.cursor l.self l.left

abbrev pub decreases-loop-left : goal.decreases-loop-left
decreases-loop-left l = length (tokens_left l.left)
