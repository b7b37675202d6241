-- How the arrays of `Groups` agree. No contract cites this: it is for the proofs of this crate alone.
use Rattle.std.specs.Prelude.{◌≡◌, ℕ, ◌≤◌, ◌<◌, ◌^◌, List, length, slice_index}
use Rattle.gcd_lists.specs.ListsView.{list_at}
use Rattle.gcd_group.specs.GroupsView.{GroupsView, count_at, entered_at, due_at}

-- the lists are equally long, and a block's number has 32 bits; each group counts its enters at least; its notify blocks are
-- as many as are registered, and those that are due are among them
pub record CountsAgree (view : GroupsView) (registered : List ℕ) : Type 0 where
  pub entered_long : length view.entered ≡ length view.counts
  pub emptied_long : length view.emptied ≡ length view.counts
  pub notify_long : length view.notify.lists ≡ length view.counts
  pub due_long : length view.due ≡ length view.counts
  pub registered_long : length registered ≡ length view.counts
  pub few_blocks : view.notify.blocks < 2 ^ 32
  pub counted : (g : ℕ) → entered_at view g ≤ count_at view g
  pub many : (g : ℕ) → slice_index registered g ≡ length (list_at view.notify g)
  pub ready : (g : ℕ) → due_at view g ≤ length (list_at view.notify g)
