-- Shut chains, and what is known of them.
use Rattle.std.specs.Prelude.{◌≡◌, ℕ, Bool, ◌||◌, if◌then◌else◌, List, Option, Some, None}
use Rattle.gcd_plan.specs.StartRule.{is_held, is_excluded}
use Rattle.gcd_sets.specs.Words.{is_in_words}
use Rattle.gcd_tree.specs.TreeView.{TreeView, chain_at}
use Rattle.gcd_hold.specs.HoldsView.{HoldsView}
use Rattle.gcd_drain.specs.DrainsView.{DrainsView}
use Rattle.gcd_drain.specs.Rule.{knowledge_of}

-- the chain of object o is shut: an object of it is not free, or a run is open beneath a serial queue or source of it. So
-- nothing starts there (dispatch_suspend(3), dispatch_set_target_queue(3))
abbrev pub is_shut_by : DrainsView → TreeView → HoldsView → ℕ → Bool
is_shut_by drains tree holds o =
    is_held (knowledge_of drains tree holds) (chain_at tree o) || is_excluded (knowledge_of drains tree holds) (chain_at tree o)

-- the objects whose chains are known, and those among them whose chains are shut, in words of bits
pub record KnownChainsView : Type 0 where
  pub known : List ℕ
  pub shut : List ℕ

-- what is known of the chain of object o: that it is shut, that it is not, or nothing
abbrev pub answer_of : KnownChainsView → ℕ → Option Bool
answer_of marks o = if is_in_words marks.known o then Some (is_in_words marks.shut o) else None

-- what is known is so
abbrev pub AreSound : DrainsView → TreeView → HoldsView → KnownChainsView → Type 0
AreSound drains tree holds marks = (o : ℕ) (shut : Bool) → answer_of marks o ≡ Some shut → is_shut_by drains tree holds o ≡ shut
