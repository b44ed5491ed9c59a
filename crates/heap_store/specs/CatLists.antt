-- The catenable list: nodes whose children wait in a real-time queue, and what a link of them makes (Okasaki, 10.2.1).
use Rattle.std.specs.Prelude.{ℕ, suc, ◌-◌, eqb, ltb, Bool, true, false, ◌&&◌, length}
use Rattle.std.specs.List.{list_all}
use Rattle.lazy_rec.specs.declared.records.Rec.{Rec}
use Rattle.lazy_rec.specs.declared.records.Rec.TheVariants.{CatNode, LinkAll}
use Rattle.lazy_rec.specs.Named.{Records, at_record}
use Rattle.lazy_rec.specs.Meaning.{Entry, an_item, a_child, cells, means}
use Rattle.heap_store.specs.World.{World, recs, holds}
use Rattle.heap_store.specs.Streams.{first_cell}
use Rattle.heap_store.specs.RtQueues.{on_rt_queue, is_queue_with, is_queue_after}

-- ---- what a link makes

-- the links of all lists of a queue but the first
abbrev pub next_links : World → ℕ → ℕ → ℕ → ℕ → Rec → Bool
next_links w queue len origin off (LinkAll queue' len' _ origin' off') =
    at_record false (λ q. holds (recs w) queue'.0 (is_queue_after w q)) (recs w queue) && eqb len' (len - 1) && eqb origin origin'.0 && eqb off' (suc off)
next_links w _ _ _ _ _ = false

-- a list's node with the same item, and one more child that passes a test
abbrev pub is_linked : World → Rec → (ℕ → Bool) → Rec → Bool
is_linked w (CatNode item kids _) child (CatNode item' kids' _) = eqb item.0 item'.0
    && at_record false (λ q. holds (recs w) kids'.0 (is_queue_with w q (λ c v. c && child v))) (recs w kids.0)
is_linked w _ _ _ = false

-- the first child of a queue whose first cell is known
abbrev pub first_child : World → ℕ → (ℕ → Bool) → Bool
first_child w queue test = holds (recs w) queue (on_rt_queue (λ front _ _ _ _. first_cell w front (λ c v _. c && test v)))

-- ---- the list

abbrev pub is_child : Records → Entry → Bool
is_child rs (an_item _) = false
is_child rs (a_child p) = ltb 0 (length (means rs p))

abbrev pub has_children : Records → ℕ → Bool
has_children rs p = list_all (is_child rs) (cells rs p)

-- the entries of a queue are lists of at least one item
abbrev pub is_queue_of_children : Records → ℕ → Bool
is_queue_of_children rs p = holds rs p (on_rt_queue (λ front _ rear _ _. has_children rs front && has_children rs rear))

abbrev pub is_cat : Records → ℕ → Rec → Bool
is_cat rs p (CatNode _ kids _) = is_queue_of_children rs kids.0
is_cat rs p (LinkAll queue _ _ _ _) = is_queue_of_children rs queue.0
is_cat rs p _ = true
