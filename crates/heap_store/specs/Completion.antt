-- What the completion of a suspension makes, and the suspension that comes after it in its family. Named places count as
-- one where one is the Done place of the other; a heap's result is compared as whole trees, a finger tree's digits and
-- nodes by their elements. Each structure's part stands in its own file.
use Rattle.std.specs.Prelude.{ℕ, eqb, ltb, Bool, false, cond, ◌&&◌}
use Rattle.lazy_rec.specs.declared.records.Rec.{Rec}
use Rattle.lazy_rec.specs.declared.records.Rec.TheVariants.{Append, Reverse, BankRot, RtRot, HeapInsert, HeapMerge, LinkAll, PushL, PushR, DeepL, DeepR, Concat}
use Rattle.lazy_rec.specs.Named.{at_record}
use Rattle.heap_store.specs.World.{World, recs, holds, value_at, same_place}
use Rattle.heap_store.specs.Forest.{forest, same_forest}
pub use Rattle.heap_store.specs.Streams.{same_bool, on_cell, on_list_cell, is_cell, first_cell, is_first_of, is_nil, is_list_nil, plain_of, is_append, next_append}
unfoldable pub use Rattle.heap_store.specs.Streams.{is_plain}
pub use Rattle.heap_store.specs.BankQueues.{is_bank_rotation, next_bank_rotation}
pub use Rattle.heap_store.specs.RtQueues.{is_rt_rotation, next_rt_rotation, on_rt_queue, is_queue, is_new_rotation, is_queue_with, is_queue_after}
pub use Rattle.heap_store.specs.CatLists.{next_links, is_linked, first_child}
pub use Rattle.heap_store.specs.FingerTrees.{elements_of, elements, Middle, tree, push_left, push_right, without_left, without_right, shorter_left, shorter_right, between, Made, empty, one, deep, top_of_record, top_at, node_left, node_right, onto_left, onto_right, push_one_left, push_one_right, push_all_left, push_all_right, of_digit, middle_without_left, with_left_node, from_middle_left, middle_without_right, with_right_node, from_middle_right, grouped, middles, joined_trees, made_tree, same_places, on_digit, on_node, is_digit, is_node, are_nodes, is_empty_tree, is_tree, is_middle, is_middle_at, is_top, is_next_middle, next_tree, is_tree_made}

-- the second record is the one that the first makes at its next offset
abbrev pub is_next : World → Rec → Rec → Bool
is_next w (Append xs ys left origin off) s = ltb 1 left && first_cell w xs.0 (λ c v rest. next_append w rest ys.0 left origin.0 off s)
is_next w (BankRot xs rear left origin off) s = ltb 0 left && first_cell w xs.0 (λ c v rest. next_bank_rotation w rest rear.0 left origin.0 off s)
is_next w (RtRot xs rear acc left origin off) s = ltb 0 left && first_cell w xs.0 (λ c v rest. next_rt_rotation w rest rear.0 acc.0 left origin.0 off s)
is_next w (LinkAll queue len _ origin off) s = ltb 1 len && next_links w queue.0 len origin.0 off s
is_next w (PushL c i t e1 e2 o z k) s = next_tree w (PushL c i t e1 e2 o z k) s
is_next w (PushR c i t e1 e2 o z k) s = next_tree w (PushR c i t e1 e2 o z k) s
is_next w (DeepL m d z o i k) s = next_tree w (DeepL m d z o i k) s
is_next w (DeepR m d z o i k) s = next_tree w (DeepR m d z o i k) s
is_next w (Concat i l r d o z k) s = next_tree w (Concat i l r d o z k) s
is_next w _ _ = false

-- the place holds what the suspension at p makes of its needs
abbrev pub is_made : World → ℕ → Rec → ℕ → Bool
is_made w p (Append xs ys left origin off) place = is_first_of w xs.0 place (λ rest made.
    cond (eqb left 1) (eqb ys.0 made) (holds (recs w) made (next_append w rest ys.0 left origin.0 off)))
is_made w p (Reverse _ _) place = is_plain (recs w) place
is_made w p (BankRot xs rear left origin off) place = cond (eqb left 0)
    (is_plain (recs w) place)
    (is_first_of w xs.0 place (λ rest made. holds (recs w) made (next_bank_rotation w rest rear.0 left origin.0 off)))
is_made w p (RtRot xs rear acc left origin off) place = cond (eqb left 0)
    (holds (recs w) rear.0 (on_list_cell (λ c v _. holds (recs w) place (is_cell c v (eqb acc.0)))))
    (is_first_of w xs.0 place (λ rest made. holds (recs w) made (next_rt_rotation w rest rear.0 acc.0 left origin.0 off)))
is_made w p (HeapInsert _ _ _) place = same_forest (forest (recs w) p) (forest (recs w) place)
is_made w p (HeapMerge _ _ _ _) place = same_forest (forest (recs w) p) (forest (recs w) place)
is_made w p (LinkAll queue len _ origin off) place = first_child w queue.0 (λ child. cond (eqb len 1)
    (same_place w child place)
    (at_record false (λ a. holds (recs w) place (is_linked w a (λ made. holds (recs w) made (next_links w queue.0 len origin.0 off)))) (value_at w child)))
is_made w p (PushL c i t e1 e2 o z k) place = is_tree_made w (PushL c i t e1 e2 o z k) place
is_made w p (PushR c i t e1 e2 o z k) place = is_tree_made w (PushR c i t e1 e2 o z k) place
is_made w p (DeepL m d z o i k) place = is_tree_made w (DeepL m d z o i k) place
is_made w p (DeepR m d z o i k) place = is_tree_made w (DeepR m d z o i k) place
is_made w p (Concat i l r d o z k) place = is_tree_made w (Concat i l r d o z k) place
is_made w p _ place = false
