-- The arrays and the view of them: what each call reads and leaves.
use Rattle.std.proofs.Common.{◌≡◌, ◌≢◌, ℕ, ◌≤◌, ◌<◌, Bool, List, [], ◌∷◌, ◌++◌, length, get_or, set, drop, replicate, Option, Some, None, true, false, ◌==◌, refl, ap, sym, ◌∙◌, subst, arith}
use Rattle.std.specs.List.{slice_get}
use Rattle.std.specs.Option.{option_map_or}
use Rattle.std.proofs.lemmas.Bool.{eqb-true, false≢true}
use Rattle.std.proofs.lemmas.List.{get_or_read, get_or-set_same, get_or-set_other, length-set, length-replicate}
use Rattle.std.proofs.lemmas.Option.{none-some, same_Some}
use Rattle.gcd_plan.specs.Limits.{max_blocks}
use Rattle.gcd_plan.specs.declared.numbers.Blk.{Blk}
use Rattle.gcd_plan.specs.declared.numbers.Obj.{Obj}
use Rattle.gcd_lists.specs.ListsView.{ListsView, list_at, barrier_in, place_of, waits_at, without, max_lists}
use Rattle.gcd_lists.specs.Links.{IsChain, on, Hold, AreLists, AreBacked, before_in, entry, lists_of, view_of, last_at}
use Rattle.gcd_lists.proofs.Held.{First, list_short, place_seen, none_first, some_first, some_last, entry_within, view_is, linked}
use Rattle.gcd_lists.proofs.Leaves.{before_leads, before_none, before_some, first_of_none, without_first, hold_without, ends_before, ends_still, backed_before, backed_past, a_within}
use Rattle.gcd_lists.proofs.Backs.{backed_first, backed_behind, backed_rest, next_waits}
use Rattle.gcd_lists.proofs.Chains.{once_in_chain}
use Rattle.gcd_lists.proofs.Changes.{entry_nothing, nothing_waits, hold_longer, hold_rest, comes_first, comes_behind}

-- arrays that hold the lists of a view
pub record Shows (links : List (Option Blk)) (befores : List (Option Blk)) (places : List (Option (Obj × Bool))) (heads : List (Option Blk)) (lasts : List Blk)
    (v : ListsView) : Type 0 where
  pub are : AreLists links befores places heads lasts
  pub seen : view_of links places heads ≡ v

pub shown : {links : List (Option Blk)} {befores : List (Option Blk)} {places : List (Option (Obj × Bool))} {heads : List (Option Blk)} {lasts : List Blk} {v : ListsView}
    → AreLists links befores places heads lasts → view_of links places heads ≡ v → Shows links befores places heads lasts v
shown are seen = record { are = are; seen = seen }

shows_from : (links befores places heads lasts lists : _) (blocks : ℕ) → Hold links places heads lasts lists → AreBacked links befores places
    → length befores ≡ blocks → length links ≡ blocks → blocks ≤ max_blocks → length heads ≤ max_lists
    → Shows links befores places heads lasts (record { lists = lists; blocks = blocks })
shows_from links befores places heads lasts lists blocks h backed before_long long few_blocks few_lists = record {
  are = record {
    linked = linked links places heads lasts lists h;
    backed = backed;
    befores_long = before_long ∙ sym long;
    few_blocks = rw long few_blocks;
    few_lists = few_lists;
  };
  seen = view_is links places heads lasts lists h ∙ ap (λ n. record { lists = lists; blocks = n }) long;
}

-- arrays of nothing show that nothing waits
pub shows_nothing : {links : List (Option Blk)} {befores : List (Option Blk)} {places : List (Option (Obj × Bool))} {heads : List (Option Blk)}
    {lasts : List Blk} (lists blocks : ℕ) → links ≡ replicate blocks None → befores ≡ replicate blocks None → places ≡ replicate blocks None
    → heads ≡ replicate lists None → lasts ≡ replicate lists (record { 0 = 0 }) → blocks ≤ max_blocks → lists ≤ max_lists
    → Shows links befores places heads lasts (record { lists = replicate lists []; blocks = blocks })
shows_nothing lists blocks links befores places heads lasts few_blocks few_lists =
    rw (links, befores, places, heads, lasts)
    (shows_from (replicate blocks None) (replicate blocks None) (replicate blocks None) (replicate lists None) (replicate lists (record { 0 = 0 }))
    (replicate lists []) blocks (nothing_waits lists blocks) (λ b n barrier behind there. absurd (none-some _ (sym (entry_nothing blocks b) ∙ there)))
    (length-replicate blocks None) (length-replicate blocks None) few_blocks (rw (length-replicate {A = Option Blk} lists None) few_lists))

module _ {links : List (Option Blk)} {befores : List (Option Blk)} {places : List (Option (Obj × Bool))} {heads : List (Option Blk)}
    {lasts : List Blk} {v : ListsView} (s : Shows links befores places heads lasts v) where
  pub hold : Hold links places heads lasts v.lists
  hold = subst (λ u. Hold links places heads lasts u.lists) s.seen s.are.linked

  pub blocks_long : length links ≡ v.blocks
  blocks_long = ap (λ u. u.blocks) s.seen

  pub befores_long : length befores ≡ v.blocks
  befores_long = s.are.befores_long ∙ blocks_long

  -- the arrays stay as short as those of a plan
  few_blocks : v.blocks ≤ max_blocks
  few_blocks = omega (arith, blocks_long, s.are.few_blocks)

  -- no more lists are there than a number of a list may tell
  pub low_node : (n : ℕ) → n < length v.lists → n < max_lists
  low_node n node = omega (arith, node, hold.heads_long, s.are.few_lists)

  -- no more blocks wait on a node than there are
  pub few_wait : (n : ℕ) → length (list_at v n) ≤ v.blocks
  few_wait n = omega (arith, list_short links places heads lasts v.lists hold n, blocks_long)

  -- what the code reads at a block and at a node
  pub place_read : (b : ℕ) (x : Option (Obj × Bool)) → b < length places → x ≡ get_or places b x → entry places b ≡ x
  place_read b x within read = sym (get_or_read places b x within read None)

  pub head_read : (n : ℕ) (x : Option Blk) → n < length v.lists → x ≡ get_or heads n x → entry heads n ≡ x
  head_read n x node read = sym (get_or_read heads n x (omega (arith, hold.heads_long)) read None)

  pub last_read : (n : ℕ) (x : Blk) → n < length v.lists → x ≡ get_or lasts n x → last_at lasts n ≡ x
  last_read n x node read = sym (get_or_read lasts n x (omega (arith, hold.lasts_long)) read (record { 0 = 0 }))

  -- the places reach over the plan
  pub places_reach : (b : ℕ) → b < v.blocks → b < length places
  places_reach b block = omega (arith, blocks_long, hold.places_long)

  pub place_is : (b : ℕ) → entry places b ≡ place_of v b
  place_is b = sym (place_seen links places heads lasts v.lists hold v refl b)

  -- what is first at a node
  pub none_waits : (n : ℕ) → entry heads n ≡ None → ◌≡◌ {A = Option (Blk × Bool)} None (slice_get (list_at v n) 0)
  none_waits n none = ap (λ ws. slice_get ws 0) (sym (none_first links places heads lasts v.lists hold n none))

  pub first_placed : (n : ℕ) (b : Blk) → entry heads n ≡ Some b → First places n b (list_at v n)
  first_placed n b some = some_first links places heads lasts v.lists hold n b some

  pub first_within : (n : ℕ) (b : Blk) → entry heads n ≡ Some b → b.0 < length places
  first_within n b some = entry_within places b.0 _ (first_placed n b some).placed

  -- and is a block of the plan
  pub first_listed : (n : ℕ) (b : Blk) → entry heads n ≡ Some b → b.0 < v.blocks
  first_listed n b some = let within = first_within n b some in omega (arith, within, hold.places_long, blocks_long)

  pub first_waits : (n : ℕ) (b : Blk) (o : Obj) (barrier : Bool) → entry heads n ≡ Some b → entry places b.0 ≡ Some (o, barrier)
      → ◌≡◌ {A = Option (Blk × Bool)} (Some (b, barrier)) (slice_get (list_at v n) 0)
  first_waits n b o barrier some there =
      let first = first_placed n b some in
      let same = same_Some _ _ (sym first.placed ∙ there) in
      ap (λ flag. Some (b, flag)) (sym (ap (λ p. p.1) same)) ∙ ap (λ ws. slice_get ws 0) (sym first.splits)

  -- the block that is first stands at the head
  pub first_at_head : (n : ℕ) (b : Blk) (barrier : Bool) → ◌≡◌ {A = Option (Blk × Bool)} (slice_get (list_at v n) 0) (Some (b, barrier))
      → entry heads n ≡ Some b
  first_at_head n b barrier first = at_head (entry heads n) refl
    where
      at_head : (o : Option Blk) → entry heads n ≡ o → o ≡ Some b
      at_head None e = absurd (none-some _ (none_waits n e ∙ first))
      at_head (Some a) e =
          let same = same_Some _ _ (ap (λ ws. slice_get ws 0) (sym (first_placed n a e).splits) ∙ first) in
          ap (λ w. Some w.0) same

  -- the last block of a list is one of the plan's
  pub end_within : (n : Obj) (a end : Blk) → entry heads n.0 ≡ Some a → last_at lasts n.0 ≡ end → end.0 < length links
  end_within n a end some is_end =
      let last = rw is_end at (some_last links places heads lasts v.lists hold n.0 a some) in
      omega (arith, entry_within places end.0 _ last.1, hold.places_long)

  -- a push on an empty list, one behind others, and a pop
  pub shows_first : (n : Obj) (b : Blk) (barrier : Bool) → n.0 < length v.lists → b.0 < v.blocks → place_of v b.0 ≡ None → entry heads n.0 ≡ None
      → Shows (set links b.0 None) befores (set places b.0 (Some (n, barrier))) (set heads n.0 (Some b)) (set lasts n.0 b)
      (record v { lists = set v.lists n.0 (list_at v n.0 ++ (b, barrier) ∷ []) })
  shows_first n b barrier node block nowhere none =
      let within : b.0 < length links = omega (arith, block, blocks_long) in
      let comes = comes_first links places heads lasts v.lists n.0 b barrier hold node within (place_is b.0 ∙ nowhere) none in
      shows_from (set links b.0 None) befores (set places b.0 (Some (n, barrier))) (set heads n.0 (Some b)) (set lasts n.0 b)
      (set v.lists n.0 (list_at v n.0 ++ (b, barrier) ∷ [])) v.blocks
      (hold_longer links places heads lasts v.lists (set links b.0 None) (set heads n.0 (Some b)) n.0 b barrier hold comes)
      (backed_first links befores places n.0 b barrier s.are.backed within) befores_long (comes.links_long ∙ blocks_long) few_blocks (omega (arith, comes.heads_long, s.are.few_lists))

  pub shows_behind : (n : Obj) (a end b : Blk) (barrier : Bool) → n.0 < length v.lists → b.0 < v.blocks → place_of v b.0 ≡ None → entry heads n.0 ≡ Some a
      → last_at lasts n.0 ≡ end
      → Shows (set (set links b.0 None) end.0 (Some b)) (set befores b.0 (Some end)) (set places b.0 (Some (n, barrier))) heads (set lasts n.0 b)
      (record v { lists = set v.lists n.0 (list_at v n.0 ++ (b, barrier) ∷ []) })
  shows_behind n a end b barrier node block nowhere some is_end =
      let within : b.0 < length links = omega (arith, block, blocks_long) in
      let comes = comes_behind links places heads lasts v.lists n.0 a end b barrier hold node within (place_is b.0 ∙ nowhere) some is_end in
      shows_from (set (set links b.0 None) end.0 (Some b)) (set befores b.0 (Some end)) (set places b.0 (Some (n, barrier))) heads (set lasts n.0 b)
      (set v.lists n.0 (list_at v n.0 ++ (b, barrier) ∷ [])) v.blocks
      (hold_longer links places heads lasts v.lists (set (set links b.0 None) end.0 (Some b)) heads n.0 b barrier hold comes)
      (backed_behind links befores places heads lasts v.lists n.0 b end barrier hold s.are.backed (place_is b.0 ∙ nowhere) within
      (omega (arith, block, befores_long)) (end_within n a end some is_end))
      (length-set befores b.0 (Some end) ∙ befores_long) (comes.links_long ∙ blocks_long) few_blocks (omega (arith, comes.heads_long, s.are.few_lists))

  pub taken_within : (n : Obj) (b : Blk) (barrier : Bool) → ◌≡◌ {A = Option (Blk × Bool)} (slice_get (list_at v n.0) 0) (Some (b, barrier)) → b.0 < length links
  taken_within n b barrier first = omega (arith, first_within n.0 b (first_at_head n.0 b barrier first), hold.places_long)

  pub shows_rest : (n : Obj) (b : Blk) (barrier : Bool) (second : Option Blk) → n.0 < length v.lists
      → ◌≡◌ {A = Option (Blk × Bool)} (slice_get (list_at v n.0) 0) (Some (b, barrier)) → second ≡ get_or links b.0 second
      → Shows links befores (set places b.0 None) (set heads n.0 second) lasts (record v { lists = set v.lists n.0 (drop 1 (list_at v n.0)) })
  shows_rest n b barrier second node first read =
      let link : second ≡ entry links b.0 = get_or_read links b.0 second (taken_within n b barrier first) read None in
      rw link
      (shows_from links befores (set places b.0 None) (set heads n.0 (entry links b.0)) lasts (set v.lists n.0 (drop 1 (list_at v n.0))) v.blocks
      (hold_rest links places heads lasts v.lists n.0 b hold node (first_at_head n.0 b barrier first))
      (backed_rest links befores places b.0 s.are.backed (first_within n.0 b (first_at_head n.0 b barrier first))) befores_long blocks_long few_blocks
      (omega (arith, length-set heads n.0 (entry links b.0), s.are.few_lists)))

  -- the block that leaves waits nowhere afterwards
  pub taken_gone : (n : Obj) (b : Blk) (barrier : Bool) (second : Option Blk) → n.0 < length v.lists
      → ◌≡◌ {A = Option (Blk × Bool)} (slice_get (list_at v n.0) 0) (Some (b, barrier)) → second ≡ get_or links b.0 second
      → place_of (view_of links (set places b.0 None) (set heads n.0 second)) b.0 ≡ None
  taken_gone n b barrier second node first read =
      let after = shows_rest n b barrier second node first read in
      place_seen links (set places b.0 None) (set heads n.0 second) lasts (lists_of links (set places b.0 None) (set heads n.0 second)) after.are.linked
      (view_of links (set places b.0 None) (set heads n.0 second)) refl b.0
      ∙ get_or-set_same places b.0 None None (omega (arith, taken_within n b barrier first, hold.places_long))

  -- ---- a block that leaves from anywhere

  pub link_read : (b : ℕ) (x : Option Blk) → b < length links → x ≡ get_or links b x → entry links b ≡ x
  link_read b x within read = sym (get_or_read links b x within read None)

  pub before_read : (b : ℕ) (x : Option Blk) → b < length befores → x ≡ get_or befores b x → entry befores b ≡ x
  before_read b x within read = sym (get_or_read befores b x within read None)

  -- a block that waits on a node has its place there
  pub waits_there : (n b : ℕ) → waits_at v n b ≡ true → (barrier : Bool) × (entry places b ≡ on n barrier)
  waits_there n b waits = there (entry places b) refl (ap (λ p. option_map_or (λ q. q.0.0 == n) p false) (place_is b) ∙ waits)
    where
      there : (p : Option (Obj × Bool)) → entry places b ≡ p → option_map_or (λ q. q.0.0 == n) p false ≡ true
          → (barrier : Bool) × (entry places b ≡ on n barrier)
      there None e is = absurd (false≢true is)
      there (Some p) e is = (p.1, e ∙ ap (λ k. on k p.1) (eqb-true p.0.0 n is))

  pub waits_within : (n b : ℕ) → waits_at v n b ≡ true → b < length links
  waits_within n b waits = let there = waits_there n b waits in omega (arith, entry_within places b _ there.1, hold.places_long)

  pub waits_listed : (n b : ℕ) → waits_at v n b ≡ true → (barrier : Bool) × (barrier_in b (list_at v n) ≡ Some barrier)
  waits_listed n b waits = let there = waits_there n b waits in (there.0, hold.found b n there.0 there.1)

  -- the block before one, where nothing waits, where it is the first, and where it is not
  pub before_of_none : (n b : ℕ) → entry heads n ≡ None → ◌≡◌ {A = Option Blk} None (before_in b (list_at v n))
  before_of_none n b none = ap (before_in b) (sym (none_first links places heads lasts v.lists hold n none))

  pub before_of_first : (n : ℕ) (a : Blk) (b : ℕ) → entry heads n ≡ Some a → a.0 ≡ b → ◌≡◌ {A = Option Blk} None (before_in b (list_at v n))
  before_of_first n a b some is =
      let first = first_placed n a some in
      let chain = subst (IsChain (entry links) (entry places) n (entry heads n)) first.splits (hold.queues n).chain in
      let once = once_in_chain (entry links) (entry places) n (entry heads n) (a, first.barrier) first.rest chain in
      sym (ap (before_in b) first.splits
      ∙ before_none (entry links) (entry places) n b (a, first.barrier) first.rest (ap (λ k. barrier_in k first.rest) (sym is) ∙ once))

  pub before_of_later : (n : ℕ) (a : Blk) (b : ℕ) → waits_at v n b ≡ true → entry heads n ≡ Some a → a.0 ≢ b
      → entry befores b ≡ before_in b (list_at v n)
  before_of_later n a b waits some ne =
      let listed = waits_listed n b waits in
      let one = before_some (entry links) (entry places) n b (entry heads n) (list_at v n) listed.0 (hold.queues n).chain listed.1
      (λ is. ne (ap (λ (x : Blk). x.0) (same_Some a (record { 0 = b }) (sym some ∙ is)))) in
      let to = before_leads (entry links) (entry places) n b (entry heads n) (list_at v n) one.0 (hold.queues n).chain one.1 in
      s.are.backed one.0.0 n to.0 (record { 0 = b }) to.1 to.2 ∙ sym one.1

  -- the first block leaves
  pub shows_front : (n : Obj) (b : Blk) (second : Option Blk) → n.0 < length v.lists → waits_at v n.0 b.0 ≡ true
      → before_in b.0 (list_at v n.0) ≡ None → second ≡ get_or links b.0 second
      → Shows links befores (set places b.0 None) (set heads n.0 second) lasts (record v { lists = set v.lists n.0 (without b.0 (list_at v n.0)) })
  shows_front n b second node waits none read =
      let listed = waits_listed n.0 b.0 waits in
      let head = first_of_none (entry links) (entry places) n.0 b.0 (entry heads n.0) (list_at v n.0) listed.0 (hold.queues n.0).chain listed.1 none in
      let first = ap (λ ws. slice_get ws 0) (first_placed n.0 b head).splits in
      rw (without_first (entry links) (entry places) n.0 b.0 (entry heads n.0) (list_at v n.0) (hold.queues n.0).chain head)
      (shows_rest n b (first_placed n.0 b head).barrier second node first read)

  -- a block leaves from behind another
  module _ (n : Obj) (a b : Blk) (second : Option Blk) (node : n.0 < length v.lists) (waits : waits_at v n.0 b.0 ≡ true)
      (before : before_in b.0 (list_at v n.0) ≡ Some a) (read : second ≡ get_or links b.0 second) where
    pub before_within : a.0 < length links
    before_within =
        let there = waits_there n.0 b.0 waits in
        a_within links befores places heads lasts v.lists n.0 a b there.0 hold s.are.backed node there.1 before

    link_is : entry links b.0 ≡ second
    link_is = link_read b.0 second (waits_within n.0 b.0 waits) read

    pub shows_last : second ≡ None
        → Shows (set links a.0 second) befores (set places b.0 None) heads (set lasts n.0 a) (record v { lists = set v.lists n.0 (without b.0 (list_at v n.0)) })
    shows_last none =
        let there = waits_there n.0 b.0 waits in
        let end : last_at (set lasts n.0 a) n.0 ≡ a = get_or-set_same lasts n.0 a (record { 0 = 0 }) (omega (arith, node, hold.lasts_long)) in
        rw (← link_is)
        (shows_from (set links a.0 (entry links b.0)) befores (set places b.0 None) heads (set lasts n.0 a) (set v.lists n.0 (without b.0 (list_at v n.0))) v.blocks
        (hold_without links befores places heads lasts v.lists n.0 a b there.0 hold s.are.backed node there.1 before (set lasts n.0 a) (length-set lasts n.0 a)
        (λ m ne. get_or-set_other lasts n.0 m a (record { 0 = 0 }) ne)
        (rw end (ends_before links befores places heads lasts v.lists n.0 a b there.0 hold s.are.backed node there.1 before (link_is ∙ none))))
        (backed_before links befores places heads lasts v.lists n.0 a b there.0 hold s.are.backed node there.1 before (link_is ∙ none))
        befores_long (length-set links a.0 (entry links b.0) ∙ blocks_long) few_blocks s.are.few_lists)

    -- the block behind is one of the plan's
    pub behind_within : (behind : Blk) → second ≡ Some behind → behind.0 < length befores
    behind_within behind some =
        let there = waits_there n.0 b.0 waits in
        let next = next_waits links places heads lasts v.lists b.0 n.0 there.0 behind hold there.1 (link_is ∙ some) in
        omega (arith, entry_within places behind.0 _ next.1, hold.places_long, s.are.befores_long)

    pub shows_past : (behind : Blk) → second ≡ Some behind
        → Shows (set links a.0 second) (set befores behind.0 (Some a)) (set places b.0 None) heads lasts
        (record v { lists = set v.lists n.0 (without b.0 (list_at v n.0)) })
    shows_past behind some =
        let there = waits_there n.0 b.0 waits in
        let head = some_waits (list_at v n.0) (hold.queues n.0).chain before in
        let last = some_last links places heads lasts v.lists hold n.0 head.0 head.1 in
        let reach = behind_within behind some in
        rw (← link_is)
        (shows_from (set links a.0 (entry links b.0)) (set befores behind.0 (Some a)) (set places b.0 None) heads lasts
        (set v.lists n.0 (without b.0 (list_at v n.0))) v.blocks
        (hold_without links befores places heads lasts v.lists n.0 a b there.0 hold s.are.backed node there.1 before lasts refl (λ m ne. refl)
        (ends_still links befores places heads lasts v.lists n.0 a b there.0 hold s.are.backed node there.1 before behind (last_at lasts n.0) last.0 (link_is ∙ some) last.1 last.2))
        (backed_past links befores places heads lasts v.lists n.0 a b there.0 hold s.are.backed node there.1 before behind (link_is ∙ some) reach)
        (length-set befores behind.0 (Some a) ∙ befores_long) (length-set links a.0 (entry links b.0) ∙ blocks_long) few_blocks s.are.few_lists)
      where
        some_waits : (ws : List (Blk × Bool)) → IsChain (entry links) (entry places) n.0 (entry heads n.0) ws → before_in b.0 ws ≡ Some a
            → (x : Blk) × (entry heads n.0 ≡ Some x)
        some_waits [] chain is = absurd (none-some a is)
        some_waits (w ∷ ws) chain is = (w.0, chain.0)

-- a block whose place is taken away waits nowhere
pub gone_from : {links : List (Option Blk)} {befores : List (Option Blk)} (places : List (Option (Obj × Bool))) {heads : List (Option Blk)}
    {lasts : List Blk} {v : ListsView} (b : ℕ) → Shows links befores (set places b None) heads lasts v → b < length places
    → place_of (view_of links (set places b None) heads) b ≡ None
gone_from {links} {befores} places {heads} {lasts} {v} b s within =
    place_seen links (set places b None) heads lasts (lists_of links (set places b None) heads) s.are.linked (view_of links (set places b None) heads) refl b
    ∙ get_or-set_same places b None None within
