-- The links back: what a block that comes, and one that goes, leaves of them.
use Rattle.std.proofs.Common.{◌≡◌, ◌≢◌, ℕ, ◌<◌, Bool, List, [], ◌∷◌, length, get_or, set, Option, Some, None, ap, sym, ◌∙◌, inl, inr, ◌⊎◌}
use Rattle.std.proofs.lemmas.Bool.{cases_eq}
use Rattle.std.proofs.lemmas.List.{get_or-set_same, get_or-set_other, length-set}
use Rattle.std.proofs.lemmas.Option.{none-some, same_Some}
use Rattle.gcd_plan.specs.declared.numbers.Blk.{Blk}
use Rattle.gcd_plan.specs.declared.numbers.Obj.{Obj}
use Rattle.gcd_plan.proofs.Numbered.{same_blk}
use Rattle.gcd_lists.specs.Links.{Hold, IsChain, AreBacked, entry, on}
use Rattle.gcd_lists.proofs.Chains.{chain_behind}

-- what stands behind a block that waits waits on the same node
pub next_waits : (links places heads lasts lists : _) (b n : ℕ) (barrier : Bool) (behind : Blk) → Hold links places heads lasts lists
    → entry places b ≡ on n barrier → entry links b ≡ Some behind → (flag : Bool) × (entry places behind.0 ≡ on n flag)
next_waits links places heads lasts lists b n barrier behind h there link =
    let rest = chain_behind (entry links) (entry places) n b (entry heads n) (get_or lists n []) barrier (h.queues n).chain (h.found b n barrier there) in
    first rest.0 rest.2
  where
    first : (ws : List (Blk × Bool)) → IsChain (entry links) (entry places) n (entry links b) ws → (flag : Bool) × (entry places behind.0 ≡ on n flag)
    first [] chain = absurd (none-some behind (sym chain ∙ link))
    first (w ∷ ws) chain = (w.1, ap (λ (x : Blk). entry places x.0) (same_Some behind w.0 (sym link ∙ chain.0)) ∙ chain.1)

-- a block that comes to an empty list
pub backed_first : (links befores places : _) (n : ℕ) (b : Blk) (barrier : Bool) → AreBacked links befores places → b.0 < length links
    → AreBacked (set links b.0 None) befores (set places b.0 (on n barrier))
backed_first links befores places n b barrier backed block x m flag behind there link =
    elim (cases_eq x b.0) [
      | inl e ↦ absurd (none-some behind (sym (ap (entry (set links b.0 None)) e ∙ get_or-set_same links b.0 None None block) ∙ link))
      | inr ne ↦
          backed x m flag behind (sym (get_or-set_other places b.0 x (on n barrier) None ne) ∙ there) (sym (get_or-set_other links b.0 x None None ne) ∙ link)
    ]

-- a block that comes behind others
pub backed_behind : (links befores places heads lasts lists : _) (n : ℕ) (b end : Blk) (barrier : Bool) → Hold links places heads lasts lists
    → AreBacked links befores places → entry places b.0 ≡ None → b.0 < length links → b.0 < length befores → end.0 < length links
    → AreBacked (set (set links b.0 None) end.0 (Some b)) (set befores b.0 (Some end)) (set places b.0 (on n barrier))
backed_behind links befores places heads lasts lists n b end barrier h backed nowhere block back_block end_block x m flag behind there link =
    elim (cases_eq x end.0) [
      | inl e ↦
          let to : b ≡ behind = same_Some b behind
          (sym (get_or-set_same (set links b.0 None) end.0 (Some b) None (rw (length-set links b.0 None) end_block)) ∙ sym (ap (entry (set (set links b.0 None) end.0 (Some b))) e) ∙ link) in
          ap (λ (y : Blk). entry (set befores b.0 (Some end)) y.0) (sym to) ∙ get_or-set_same befores b.0 (Some end) None back_block
          ∙ ap Some (same_blk end (record { 0 = x }) (sym e))
      | inr ne ↦ before ne (cases_eq x b.0)
    ]
  where
    before : x ≢ end.0 → (x ≡ b.0) ⊎ (x ≢ b.0) → entry (set befores b.0 (Some end)) behind.0 ≡ Some (record { 0 = x })
    before ne (inl e) =
        absurd (none-some behind
        (sym (get_or-set_other (set links b.0 None) end.0 x (Some b) None ne ∙ ap (entry (set links b.0 None)) e ∙ get_or-set_same links b.0 None None block) ∙ link))
    before ne (inr new) =
        let place : entry places x ≡ on m flag = sym (get_or-set_other places b.0 x (on n barrier) None new) ∙ there in
        let old : entry links x ≡ Some behind = sym (get_or-set_other (set links b.0 None) end.0 x (Some b) None ne ∙ get_or-set_other links b.0 x None None new) ∙ link in
        let waits = next_waits links places heads lasts lists x m flag behind h place old in
        get_or-set_other befores b.0 behind.0 (Some end) None (λ e. none-some _ (sym nowhere ∙ ap (entry places) (sym e) ∙ waits.1))
        ∙ backed x m flag behind place old

-- a block that waits after another has left is not that one
pub still_waits : (places : List (Option (Obj × Bool))) (b x m : ℕ) (flag : Bool) → b < length places → entry (set places b None) x ≡ on m flag
    → (x ≢ b) × (entry places x ≡ on m flag)
still_waits places b x m flag within there =
    let ne : x ≢ b = λ e. none-some _ (sym (get_or-set_same places b None None within) ∙ ap (entry (set places b None)) (sym e) ∙ there) in
    (ne, sym (get_or-set_other places b x None None ne) ∙ there)

-- the first of a list leaves
pub backed_rest : (links befores places : _) (b : ℕ) → AreBacked links befores places → b < length places → AreBacked links befores (set places b None)
backed_rest links befores places b backed within x m flag behind there link =
    backed x m flag behind (still_waits places b x m flag within there).1 link
