-- The sizes and lengths that records keep: each is the length of what it counts (of finger trees: Hinze and Paterson, 4).
use Rattle.std.specs.Prelude.{ℕ, suc, ◌+◌, eqb, ltb, Bool, true, ◌&&◌, Option, Some, None, List, length}
use Rattle.lazy_rec.specs.declared.records.Rec.{Rec}
use Rattle.lazy_rec.specs.declared.records.Rec.TheVariants.{StreamTop, BankTop, RtTop, HeapTop, CatNode, Node, Digit, Single, Deep, Append, Reverse, BankRot, RtRot, HeapInsert, HeapMerge, LinkAll, PushL, PushR, DeepL, DeepR, Concat}
use Rattle.lazy_rec.specs.Named.{Records}
use Rattle.lazy_rec.specs.Meaning.{cells, means, means_of}
use Rattle.heap_store.specs.World.{holds}
use Rattle.heap_store.specs.RtQueues.{on_rt_queue}

-- the size that a finger record caches, if it has one
abbrev pub size_in : Rec → Option ℕ
size_in (Node _ _ _ _ size _) = Some size
size_in (Digit _ _ _ _ _ size _) = Some size
size_in (Single _ size _) = Some size
size_in (Deep _ _ _ size _) = Some size
size_in (PushL _ _ _ _ _ _ size _) = Some size
size_in (PushR _ _ _ _ _ _ size _) = Some size
size_in (DeepL _ _ size _ _ _) = Some size
size_in (DeepR _ _ size _ _ _) = Some size
size_in (Concat _ _ _ _ _ size _) = Some size
size_in _ = None

abbrev pub is_size : List ℕ → Option ℕ → Bool
is_size xs None = true
is_size xs (Some n) = eqb n (length xs)

-- each size and length field is the length of what it counts. A finger record's is said of what it names, so it can be told
-- before the record stands at its place
abbrev pub has_sizes : Records → ℕ → Rec → Bool
has_sizes rs p (StreamTop front size) = eqb size (length (cells rs front.0))
has_sizes rs p (BankTop _ front lenf rear lenr _ _ _) = eqb lenf (length (cells rs front.0)) && eqb lenr (length (cells rs rear.0))
has_sizes rs p (RtTop front lenf rear lenr _) = eqb lenf (length (cells rs front.0)) && eqb lenr (length (cells rs rear.0))
has_sizes rs p (HeapTop list size _) = eqb size (length (means rs list.0))
has_sizes rs p (CatNode _ kids size) = eqb size (suc (length (means rs kids.0)))
has_sizes rs p (Append xs _ left _ _) = eqb left (length (cells rs xs.0)) && ltb 0 left
has_sizes rs p (Reverse xs left) = eqb left (length (cells rs xs.0)) && ltb 0 left
has_sizes rs p (BankRot xs _ left _ _) = eqb left (length (cells rs xs.0))
has_sizes rs p (RtRot xs _ _ left _ _) = eqb left (length (cells rs xs.0))
has_sizes rs p (HeapInsert _ list size) = eqb size (length (means rs list.0))
has_sizes rs p (HeapMerge list1 list2 n1 n2) = eqb n1 (length (means rs list1.0)) && eqb n2 (length (means rs list2.0))
has_sizes rs p (LinkAll queue len size _ _) = eqb size (length (means rs queue.0)) && ltb 0 len && holds rs queue.0 (on_rt_queue (λ _ lenf _ lenr _. eqb len (lenf + lenr)))
has_sizes rs p r = is_size (means_of rs (means rs) p r) (size_in r)
