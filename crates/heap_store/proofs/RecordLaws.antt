-- Growth keeps the laws of each record.
use Rattle.std.proofs.Common.{◌≡◌, ℕ, zero, suc, ◌<◌, ◌+◌, ◌*◌, refl, sym, ap, ◌∙◌, eqb, ltb, leb, Bool, true, false, ◌&&◌, Option, Some, None, List, [], ◌∷◌, take, length, map, drop}
use Rattle.std.specs.Prelude.{option_and_then, is_some}
use Rattle.std.specs.List.{AllByRecursion, list_all}
use Rattle.std.proofs.lemmas.Bool.{true≢false, and_parts, or_cases}
use Rattle.std.proofs.Common.{inl, inr, ◌⊎◌, not, cond, ◌++◌}
use Rattle.std.specs.Prelude.{option_map}
use Rattle.lazy_rec.specs.States.{kept}
use Rattle.lazy_rec.specs.Tests.{is_some_and}
use Rattle.heap_store.specs.declared.nodes.Node.{Node as StoreNode}
use Rattle.heap_store.specs.World.{node_at, done_at, is_value, is_done, value_of}
use mathlib.Core.Path.{fun_ext}
use Rattle.lazy_rec.specs.declared.records.Rec.{Rec}
use Rattle.lazy_rec.specs.declared.records.Rec.TheVariants.{Cons, StreamTop, BankTop, RtTop, HeapTop, Tree, CatNode, TEmpty, Leaf, Node, Digit, Single, Deep, Append, Reverse, BankRot, RtRot, HeapInsert, HeapMerge, LinkAll, PushL, PushR, DeepL, DeepR, Concat}
use Rattle.lazy_rec.specs.declared.events.Kind.{Kind}
use Rattle.lazy_rec.specs.declared.events.Kind.TheVariants as kinds
use Rattle.lazy_rec.specs.declared.records.Sort.{Sort}
use Rattle.lazy_rec.specs.declared.records.Sort.TheVariants as sorts
use Rattle.lazy_rec.specs.Meaning.{Entry, an_item, a_child, cells, means, means_of}
use Rattle.heap_store.specs.Forest.{is_tree_list}
use Rattle.heap_store.specs.World.{World, recs, holds, value_at, Keeps}
use Rattle.heap_store.specs.Completion.{on_rt_queue}
use Rattle.heap_store.specs.Lawful.{has_sizes, size_in, is_size, is_rooted, stream_of, is_stream, bank_front_of, is_bank_front, rt_front_of, is_rt_front, is_child, has_children, is_unmixed, is_rotated, is_bank_queue, is_bank_origin, same_entries, walk, rest_of, is_rt_queue, insert_steps_of, insert_steps, is_heap_list, is_heap, is_queue_of_children, is_cat, if_any, level_from, level, level_of, is_of_level, is_finger, has_keys_at, has_keys, keeps_keys, IsDoneWell, cell_places, first_children, link_needs, kids_of, needs, height, height_of, greatest, has_low_names, may_wait}
use Rattle.lazy_rec.specs.Units.{family_of}
use Rattle.lazy_rec.proofs.ByPlaceLaws.{by_place_agree}
use Rattle.heap_store.proofs.Alls.{All-map}
use Rattle.heap_store.proofs.MeaningLaws.{by_record_kept, cells_kept, means_kept, joined_same, children_lower, IsLowerChild}
use Rattle.lazy_rec.specs.Named.{is_pending}
use Rattle.heap_store.proofs.MadeLaws.{value_place}
use Rattle.heap_store.proofs.GrowthLaws.{is_value_up, Up, and_up, or_up, same_up, at_up, at_true, holds_up, value_up}
use Rattle.heap_store.proofs.CompletionLaws.{cond_up}
use Rattle.heap_store.proofs.MadeLaws.{some_up, forest_kept, trees_only_kept, plain_kept, is_made_up}
use Rattle.heap_store.proofs.NameLaws.{NamesWell, IsNamedWell, IsPublished, LooksAtNamed}
use Rattle.heap_store.specs.Growth.{Grows}
use Rattle.lazy_rec.specs.Named.{Records, NamedPlace, named, sort_of, same_sort, at_record}
use Rattle.lazy_rec.specs.Tests.{implies}

pub stream_look : LooksAtNamed stream_of
stream_look (Cons _ _ rest) g h s = s.0
stream_look (Append xs ys _ _ _) g h s = rw (s.0, s.1.0) refl
stream_look (Reverse xs _) g h s = s.0
stream_look _ g h s = refl

pub bank_look : LooksAtNamed bank_front_of
bank_look (Cons _ _ rest) g h s = s.0
bank_look (BankRot xs _ _ _ _) g h s = s.0
bank_look _ g h s = refl

pub rt_look : LooksAtNamed rt_front_of
rt_look (Cons _ _ rest) g h s = s.0
rt_look (RtRot xs _ acc _ _ _) g h s = rw (s.0, s.1.1.0) refl
rt_look _ g h s = refl

pub insert_look : LooksAtNamed insert_steps_of
insert_look (HeapInsert i list z) g h s = rw s.0 refl
insert_look _ g h s = refl

pub any_same : (g h : ℕ → ℕ) (s : Sort) (n e : ℕ) (es : List ℕ) → AllByRecursion (λ (q : NamedPlace). g q.0 ≡ h q.0) (take n (map (λ p. (p, s)) (e ∷ es))) → if_any n (g e) ≡ if_any n (h e)
any_same g h s zero e es k = refl
any_same g h s (suc n) e es k = k.0

pub level_look : LooksAtNamed level_from
level_look (Node count e1 e2 e3 _ _) g h s = rw (any_same g h sorts.Element count e1.0 (e2.0 ∷ e3.0 ∷ []) s) refl
level_look (Digit count e1 e2 e3 e4 _ _) g h s = any_same g h sorts.Element count e1.0 (e2.0 ∷ e3.0 ∷ e4.0 ∷ []) s
level_look (Single elem _ _) g h s = s.0
level_look (Deep left _ _ _ _) g h s = s.0
level_look (PushL count _ _ e1 e2 _ _ _) g h s = any_same g h sorts.Element count e1.0 (e2.0 ∷ []) s.1
level_look (PushR count _ _ e1 e2 _ _ _) g h s = any_same g h sorts.Element count e1.0 (e2.0 ∷ []) s.1
level_look (DeepL _ digit _ _ _ _) g h s = s.1.0
level_look (DeepR _ digit _ _ _ _) g h s = s.1.0
level_look (Concat _ _ _ list _ _ _) g h s = s.1.1.0
level_look _ g h s = refl

pub all_same : (g h : ℕ → ℕ → Bool) (s : Sort) (d n : ℕ) (ps : List ℕ) → AllByRecursion (λ (q : NamedPlace). g q.0 ≡ h q.0) (take n (map (λ p. (p, s)) ps)) → list_all (λ p. g p d) (take n ps) ≡ list_all (λ p. h p d) (take n ps)
all_same g h s d zero ps k = refl
all_same g h s d (suc n) [] k = refl
all_same g h s d (suc n) (p ∷ ps) k = rw (k.0, all_same g h s d n ps k.1) refl

pub level_at : (d : ℕ) (r : Rec) (g h : ℕ → ℕ → Bool) → AllByRecursion (λ (q : NamedPlace). g q.0 ≡ h q.0) (named r) → level_of g r d ≡ level_of h r d
level_at d (Leaf _) g h s = refl
level_at zero (Node count e1 e2 e3 _ _) g h s = refl
level_at (suc d) (Node count e1 e2 e3 _ _) g h s = all_same g h sorts.Element d count (e1.0 ∷ e2.0 ∷ e3.0 ∷ []) s
level_at d (Digit count e1 e2 e3 e4 _ _) g h s = all_same g h sorts.Element d count (e1.0 ∷ e2.0 ∷ e3.0 ∷ e4.0 ∷ []) s
level_at d TEmpty g h s = refl
level_at d (Single elem _ _) g h s = rw s.0 refl
level_at d (Deep left middle right _ _) g h s = rw (s.0, s.1.0, s.1.1.0) refl
level_at d (PushL count _ tree e1 e2 _ _ _) g h s = rw (s.0, all_same g h sorts.Element d count (e1.0 ∷ e2.0 ∷ []) s.1) refl
level_at d (PushR count _ tree e1 e2 _ _ _) g h s = rw (s.0, all_same g h sorts.Element d count (e1.0 ∷ e2.0 ∷ []) s.1) refl
level_at d (DeepL middle digit _ _ _ _) g h s = rw (s.0, s.1.0) refl
level_at d (DeepR middle digit _ _ _ _) g h s = rw (s.0, s.1.0) refl
level_at d (Concat _ left right list _ _ _) g h s = rw (s.0, s.1.0, s.1.1.0) refl
level_at d _ g h s = refl

module _ (a b : Records) (names : NamesWell a) (keeps : Keeps a b) where
  is_stream_kept : (p : ℕ) → IsPublished a p → is_stream a p ≡ is_stream b p
  unfolding is_stream
  is_stream_kept = by_record_kept false stream_of stream_look a b names keeps

  pub bank_front_kept : (p : ℕ) → IsPublished a p → is_bank_front a p ≡ is_bank_front b p
  unfolding is_bank_front
  bank_front_kept = by_record_kept false bank_front_of bank_look a b names keeps

  rt_front_kept : (p : ℕ) → IsPublished a p → is_rt_front a p ≡ is_rt_front b p
  unfolding is_rt_front
  rt_front_kept = by_record_kept false rt_front_of rt_look a b names keeps

  insert_steps_kept : (p : ℕ) → IsPublished a p → insert_steps a p ≡ insert_steps b p
  unfolding insert_steps
  insert_steps_kept = by_record_kept 0 insert_steps_of insert_look a b names keeps

  pub level_kept : (p : ℕ) → IsPublished a p → is_of_level a p ≡ is_of_level b p
  unfolding is_of_level
  level_kept = by_record_kept (λ _. false) level_of (λ r g h s. fun_ext (λ d. level_at d r g h s)) a b names keeps

  tree_list_kept : (p : ℕ) → IsPublished a p → is_tree_list a p ≡ is_tree_list b p
  tree_list_kept p is = rw (trees_only_kept a b names keeps p is, forest_kept a b names keeps p is) refl

  pub keys_kept : (k : Kind) (p : ℕ) → IsPublished a p → has_keys k a p ≡ has_keys k b p
  unfolding has_keys
  keys_kept k = by_place_agree false _ _ (IsPublished a) (λ p g h is same.
      ap (at_record false (has_keys_at k a g p)) is.1
      ∙ by p g h is same
      ∙ sym (ap (at_record false (has_keys_at k b h p)) (keeps p is.0 is.1)))
    where
      all : (g h : ℕ → Bool) (qs : List NamedPlace) → AllByRecursion (λ q. g q.0 ≡ h q.0) qs → list_all (λ q. g q.0) qs ≡ list_all (λ q. h q.0) qs
      all g h [] s = refl
      all g h (q ∷ qs) s = rw (s.0, all g h qs s.1) refl

      by : (p : ℕ) (g h : ℕ → Bool) (is : IsPublished a p) → ((q : ℕ) → q < p → IsPublished a q → g q ≡ h q) → has_keys_at k a g p is.0 ≡ has_keys_at k b h p is.0
      by p g h is same = rw (means_kept a b names keeps p is, all g h (named is.0) (All-map (IsNamedWell a p) _ (λ q w. same q.0 w.0 (w.1, w.2)) (named is.0) (names p is.0 is.1))) refl

  pub keeps_keys_kept : (k : Kind) (p : ℕ) → IsPublished a p → keeps_keys k a p ≡ keeps_keys k b p
  keeps_keys_kept kinds.Seq p is = keys_kept kinds.Seq p is
  keeps_keys_kept kinds.Prio p is = keys_kept kinds.Prio p is
  keeps_keys_kept kinds.Ord p is = rw (keys_kept kinds.Ord p is, means_kept a b names keeps p is) refl
  keeps_keys_kept _ p is = refl

  pub height_kept : (p : ℕ) → IsPublished a p → height a p ≡ height b p
  unfolding height
  height_kept = by_place_agree 0 _ _ (IsPublished a) (λ p g h is same.
      ap (at_record 0 (height_of g p)) is.1
      ∙ by p g h is.0 (All-map (IsNamedWell a p) _ (λ q w. same q.0 w.0 (w.1, w.2)) (named is.0) (names p is.0 is.1))
      ∙ sym (ap (at_record 0 (height_of h p)) (keeps p is.0 is.1)))
    where
      all : (g h : ℕ → ℕ) (qs : List NamedPlace) → AllByRecursion (λ q. g q.0 ≡ h q.0) qs → map (λ (q : NamedPlace). g q.0) qs ≡ map (λ (q : NamedPlace). h q.0) qs
      all g h [] s = refl
      all g h (q ∷ qs) s = rw (s.0, all g h qs s.1) refl

      by : (p : ℕ) (g h : ℕ → ℕ) (r : Rec) → AllByRecursion (λ q. g q.0 ≡ h q.0) (named r) → height_of g p r ≡ height_of h p r
      by p g h r s = ap (λ ns. cond (may_wait r) (family_of p r).0 (greatest ns)) (all g h (named r) s)

  pub low_names_all : (low : ℕ) (qs : List NamedPlace) → AllByRecursion (λ (q : NamedPlace). IsPublished a q.0) qs → list_all (λ (q : NamedPlace). ltb (height a q.0) low) qs ≡ list_all (λ (q : NamedPlace). ltb (height b q.0) low) qs
  low_names_all low [] s = refl
  low_names_all low (q ∷ qs) s = rw (height_kept q.0 s.0, low_names_all low qs s.1) refl

  pub low_names_up : (p : ℕ) (r : Rec) → AllByRecursion (IsNamedWell a p) (named r) → Up (has_low_names a p r) (has_low_names b p r)
  low_names_up p r e h = rw (← low_names_all (family_of p r).0 (named r) (All-map (IsNamedWell a p) _ (λ q w. (w.1, w.2)) (named r) e)) h

  -- what is the same in both worlds at each place that a record names
  pub record Same (p : ℕ) : Type 0 where
    pub there : IsPublished a p
    pub cells : cells a p ≡ cells b p
    pub means : means a p ≡ means b p

  same_at : (p : ℕ) → IsPublished a p → Same p
  same_at p is = record { there = is; cells = cells_kept a b names keeps p is; means = means_kept a b names keeps p is }

  same_named : (p : ℕ) (r : Rec) → AllByRecursion (IsNamedWell a p) (named r) → AllByRecursion (λ (q : NamedPlace). Same q.0) (named r)
  same_named p r e = All-map (IsNamedWell a p) (λ (q : NamedPlace). Same q.0) (λ q w. same_at q.0 (w.1, w.2)) (named r) e

  queue_up : (p : ℕ) (f : ℕ → ℕ → ℕ → ℕ → ℕ → Bool) → Up (holds a p (on_rt_queue f)) (holds b p (on_rt_queue f))
  queue_up p f = at_up _ _ (a p) (b p) (keeps p) (λ r. same_up)

  means_named : (ns : List NamedPlace) → AllByRecursion (λ (q : NamedPlace). Same q.0) ns → AllByRecursion (λ (q : NamedPlace). means a q.0 ≡ means b q.0) ns
  means_named [] s = tt
  means_named (n ∷ ns) s = (s.0.means, means_named ns s.1)

  -- what a record with a cached size means hangs on what it names alone
  size_means : (p : ℕ) (r : Rec) → AllByRecursion (λ (q : NamedPlace). Same q.0) (named r) → Up (is_size (means_of a (means a) p r) (size_in r)) (is_size (means_of b (means b) p r) (size_in r))
  size_means p (Node count e1 e2 e3 _ _) s h = rw (← joined_same (means a) (means b) sorts.Element count (e1.0 ∷ e2.0 ∷ e3.0 ∷ []) (means_named _ s)) h
  size_means p (Digit count e1 e2 e3 e4 _ _) s h = rw (← joined_same (means a) (means b) sorts.Element count (e1.0 ∷ e2.0 ∷ e3.0 ∷ e4.0 ∷ []) (means_named _ s)) h
  size_means p (Single _ _ _) s h = rw (← s.0.means) h
  size_means p (Deep _ _ _ _ _) s h = rw (← s.0.means, ← s.1.0.means, ← s.1.1.0.means) h
  size_means p (PushL count _ _ e1 e2 _ _ _) s h = rw (← s.0.means, ← joined_same (means a) (means b) sorts.Element count (e1.0 ∷ e2.0 ∷ []) (means_named _ s.1)) h
  size_means p (PushR count _ _ e1 e2 _ _ _) s h = rw (← s.0.means, ← joined_same (means a) (means b) sorts.Element count (e1.0 ∷ e2.0 ∷ []) (means_named _ s.1)) h
  size_means p (DeepL _ _ _ _ _ _) s h = rw (← s.0.means, ← s.1.0.means) h
  size_means p (DeepR _ _ _ _ _ _) s h = rw (← s.0.means, ← s.1.0.means) h
  size_means p (Concat _ _ _ _ _ _ _) s h = rw (← s.0.means, ← s.1.0.means, ← s.1.1.0.means) h
  size_means p _ s h = refl

  sizes_by : (p : ℕ) (r : Rec) → AllByRecursion (λ (q : NamedPlace). Same q.0) (named r) → Up (has_sizes a p r) (has_sizes b p r)
  sizes_by p (StreamTop _ _) s = λ h. rw (← s.0.cells) h
  sizes_by p (BankTop _ _ _ _ _ _ _ _) s = λ h. rw (← s.0.cells, ← s.1.0.cells) h
  sizes_by p (RtTop _ _ _ _ _) s = λ h. rw (← s.0.cells, ← s.1.0.cells) h
  sizes_by p (HeapTop _ _ _) s = λ h. rw (← s.0.means) h
  sizes_by p (CatNode _ _ _) s = λ h. rw (← s.0.means) h
  sizes_by p (Append _ _ _ _ _) s = λ h. rw (← s.0.cells) h
  sizes_by p (Reverse _ _) s = λ h. rw (← s.0.cells) h
  sizes_by p (BankRot _ _ _ _ _) s = λ h. rw (← s.0.cells) h
  sizes_by p (RtRot _ _ _ _ _ _) s = λ h. rw (← s.0.cells) h
  sizes_by p (HeapInsert _ _ _) s = λ h. rw (← s.0.means) h
  sizes_by p (HeapMerge _ _ _ _) s = λ h. rw (← s.0.means, ← s.1.0.means) h
  sizes_by p (LinkAll queue len size _ _) s = λ h. and_up {x = eqb size (length (means b queue.0)) && ltb 0 len} same_up (queue_up queue.0 _) (rw s.0.means at h)
  sizes_by p r s = size_means p r s

  pub sizes_up : (p : ℕ) (r : Rec) → AllByRecursion (IsNamedWell a p) (named r) → Up (has_sizes a p r) (has_sizes b p r)
  sizes_up p r e = sizes_by p r (same_named p r e)

  unmixed_by : (p : ℕ) (r : Rec) → AllByRecursion (λ (q : NamedPlace). Same q.0) (named r) → is_unmixed a p r ≡ is_unmixed b p r
  unmixed_by p (StreamTop front _) s = rw (is_stream_kept front.0 s.0.there, s.0.cells) refl
  unmixed_by p (Append xs ys _ _ _) s = rw (is_stream_kept xs.0 s.0.there, is_stream_kept ys.0 s.1.0.there, s.0.cells, s.1.0.cells) refl
  unmixed_by p (Reverse xs _) s = rw (is_stream_kept xs.0 s.0.there, s.0.cells) refl
  unmixed_by p (BankTop _ front _ rear _ _ _ _) s = rw (bank_front_kept front.0 s.0.there, s.0.cells, s.1.0.cells) refl
  unmixed_by p (BankRot xs rear _ _ _) s = rw (s.0.cells, s.1.0.cells) refl
  unmixed_by p (RtTop front _ _ _ _) s = rt_front_kept front.0 s.0.there
  unmixed_by p (RtRot xs _ _ _ _ _) s = rt_front_kept xs.0 s.0.there
  unmixed_by p _ s = refl

  pub unmixed_up : (p : ℕ) (r : Rec) → AllByRecursion (IsNamedWell a p) (named r) → Up (is_unmixed a p r) (is_unmixed b p r)
  unmixed_up p r e h = sym (unmixed_by p r (same_named p r e)) ∙ h

  heap_list_up : (p : ℕ) → IsPublished a p → Up (is_heap_list a p) (is_heap_list b p)
  heap_list_up p is = or_up (at_up _ _ (a p) (b p) (keeps p) (λ r. same_up)) (λ h. sym (tree_list_kept p is) ∙ h)

  heaps_by : (p : ℕ) (r : Rec) → AllByRecursion (λ (q : NamedPlace). Same q.0) (named r) → Up (is_heap a p r) (is_heap b p r)
  heaps_by p (HeapTop list size owed) s = and_up (and_up (heap_list_up list.0 s.0.there) same_up) (λ h. rw (← insert_steps_kept list.0 s.0.there) h)
  heaps_by p (HeapInsert _ list _) s = heap_list_up list.0 s.0.there
  heaps_by p (HeapMerge list1 list2 _ _) s = and_up (heap_list_up list1.0 s.0.there) (heap_list_up list2.0 s.1.0.there)
  heaps_by p (Tree rank item kids) s = λ h. rw (← trees_only_kept a b names keeps kids.0 s.0.there, ← forest_kept a b names keeps kids.0 s.0.there, ← s.0.means) h
  heaps_by p _ s = same_up

  pub heaps_up : (p : ℕ) (r : Rec) → AllByRecursion (IsNamedWell a p) (named r) → Up (is_heap a p r) (is_heap b p r)
  heaps_up p r e = heaps_by p r (same_named p r e)

  pub own_level_kept : (p : ℕ) → IsPublished a p → level a p ≡ level b p
  unfolding level
  own_level_kept = by_record_kept 0 level_from level_look a b names keeps

  level_same : (p : ℕ) (r : Rec) → AllByRecursion (IsNamedWell a p) (named r) → (d : ℕ) → level_of (is_of_level a) r d ≡ level_of (is_of_level b) r d
  level_same p r e d = level_at d r (is_of_level a) (is_of_level b) (All-map (IsNamedWell a p) _ (λ q w. level_kept q.0 (w.1, w.2)) (named r) e)

  own_level_same : (p : ℕ) (r : Rec) → AllByRecursion (IsNamedWell a p) (named r) → level_from (level a) r ≡ level_from (level b) r
  own_level_same p r e = level_look r (level a) (level b) (All-map (IsNamedWell a p) _ (λ q w. own_level_kept q.0 (w.1, w.2)) (named r) e)

  rooted_up : (p : ℕ) (r : Rec) → AllByRecursion (IsNamedWell a p) (named r) → Up (is_rooted a p r) (is_rooted b p r)
  rooted_up p r e = let f = family_of p r in cond_up (eqb f.1 0) same_up (and_up {x = leb f.1 (level_from (level a) r)} (λ h. rw (← own_level_same p r e) h) (at_up _ _ (a f.0) (b f.0) (keeps f.0) (λ o. same_up)))

  pub fingers_up : (p : ℕ) (r : Rec) → AllByRecursion (IsNamedWell a p) (named r) → Up (is_finger a p r) (is_finger b p r)
  fingers_up p r e = or_up {x = not (is_some (size_in r))} same_up (and_up {x = level_of (is_of_level a) r (level_from (level a) r)} (λ h. rw (← own_level_same p r e, ← level_same p r e (level_from (level a) r)) h) (rooted_up p r e))

  -- the origin of a banker's queue is a published place where it has a rotation
  origin_there : (p : ℕ) (test : Rec → Bool) → holds a p test ≡ true → IsPublished a p
  origin_there p test h = let k = at_true test (a p) h in (k.0, k.1)

  pub rotated_up : (front lenf origin n tails : ℕ) → IsPublished a front → Up (is_rotated a front lenf origin n tails) (is_rotated b front lenf origin n tails)
  rotated_up front lenf origin n tails is h =
      let parts = and_parts (holds a origin (is_bank_origin n) && eqb (lenf + tails) (2 * n + 1) && same_entries (cells a front) (drop tails (cells a origin))) _ h in
      let more = and_parts (holds a origin (is_bank_origin n) && eqb (lenf + tails) (2 * n + 1)) _ parts.0 in
      let first = and_parts (holds a origin (is_bank_origin n)) _ more.0 in
      let there = origin_there origin _ first.0 in
      and_up (and_up {x = holds a origin (is_bank_origin n) && eqb (lenf + tails) (2 * n + 1)} (and_up (at_up _ _ (a origin) (b origin) (keeps origin) (λ r. same_up)) same_up)
      (λ (k : same_entries (cells a front) (drop tails (cells a origin)) ≡ true). rw (← cells_kept a b names keeps front is, ← cells_kept a b names keeps origin there) k))
      (cond_up (leb tails n) (at_up _ _ (a front) (b front) (keeps front) (λ r. same_up)) (λ k. sym (plain_kept a b names keeps front is) ∙ k)) h

  banks_by : (p : ℕ) (r : Rec) → AllByRecursion (λ (q : NamedPlace). Same q.0) (named r) → Up (is_bank_queue a p r) (is_bank_queue b p r)
  banks_by p (BankTop rotated front lenf rear lenr origin n tails) s = and_up same_up (cond_up rotated (and_up {x = ltb origin.0 p} same_up (rotated_up front.0 lenf origin.0 n tails s.0.there)) (same_up {x = eqb lenf 0 && eqb lenr 0}))
  banks_by p (BankRot xs rear left _ off) s = λ h. and_up {x = eqb (length (cells b rear.0)) (off + left + 1)} same_up
      (or_up (at_up _ _ (a xs.0) (b xs.0) (keeps xs.0) (λ r. same_up)) (λ k. sym (plain_kept a b names keeps xs.0 s.0.there) ∙ k)) (rw s.1.0.cells at h)
  banks_by p _ s = same_up

  pub banks_up : (p : ℕ) (r : Rec) → AllByRecursion (IsNamedWell a p) (named r) → Up (is_bank_queue a p r) (is_bank_queue b p r)
  banks_up p r e = banks_by p r (same_named p r e)

-- ---- what speaks of states

-- so many cells on, when the world has grown
pub walk_up : (a b : World) → Grows a b → (n p q : ℕ) → walk a n p ≡ Some q → walk b n p ≡ Some q
walk_up a b x zero p q h = h
walk_up a b x (suc n) p q h = go (walk a n p) refl (walk_up a b x n p) h
  where
    step : (o : Option Rec) (o' : Option Rec) → ((r : Rec) → o ≡ Some r → o' ≡ Some r) → option_and_then rest_of o ≡ Some q → option_and_then rest_of o' ≡ Some q
    step None o' k e = cc
    step (Some r) o' k e = rw (k r refl) e

    go : (o : Option ℕ) → walk a n p ≡ o → ((m : ℕ) → walk a n p ≡ Some m → walk b n p ≡ Some m) → option_and_then (λ k. option_and_then rest_of (value_at a k)) o ≡ Some q → walk b (suc n) p ≡ Some q
    go None e ih k = cc
    go (Some m) e ih k = rw (ih m e) (step (value_at a m) (value_at b m) (value_up a b x m) k)

module _ (a b : World) (names : NamesWell (recs a)) (x : Grows a b) where
  some_walk : (n p : ℕ) → Up (is_some (walk a n p)) (is_some (walk b n p))
  some_walk n p h = go (walk a n p) refl h
    where
      go : (o : Option ℕ) → walk a n p ≡ o → is_some o ≡ true → is_some (walk b n p) ≡ true
      go None e k = absurd (true≢false (sym k))
      go (Some q) e k = rw (walk_up a b x n p q e) refl

  rts_by : (p : ℕ) (r : Rec) → AllByRecursion (λ (q : NamedPlace). Same (recs a) (recs b) names x.records q.0) (named r) → Up (is_rt_queue a p r) (is_rt_queue b p r)
  rts_by p (RtTop front lenf rear lenr sched) s = and_up (and_up same_up (some_up _ _ (walk a lenr front.0) (walk b lenr front.0) (walk_up a b x lenr front.0) (λ q. same_up)))
      (or_up (holds_up a b x sched.0 _ _ (λ r. same_up)) (λ k. sym (plain_kept (recs a) (recs b) names x.records sched.0 s.1.1.0.there) ∙ k))
  rts_by p (RtRot xs rear acc left _ off) s = λ h. and_up (and_up (and_up (some_walk left xs.0) same_up) same_up) (λ k. sym (plain_kept (recs a) (recs b) names x.records acc.0 s.1.1.0.there) ∙ k) (rw (s.1.0.cells, s.1.1.0.cells) at h)
  rts_by p _ s = same_up

  pub rts_up : (p : ℕ) (r : Rec) → AllByRecursion (IsNamedWell (recs a) p) (named r) → Up (is_rt_queue a p r) (is_rt_queue b p r)
  rts_up p r e = rts_by p r (same_named (recs a) (recs b) names x.records p r e)

  all_up : (f g : Kind → Bool) (ks : List Kind) → ((k : Kind) → Up (f k) (g k)) → Up (list_all f ks) (list_all g ks)
  all_up f g [] up = same_up
  all_up f g (k ∷ ks) up = and_up (up k) (all_up f g ks up)

  implies_up : (c : Bool) {u v : Bool} → Up u v → Up (implies c u) (implies c v)
  implies_up true f h = f h
  implies_up false f h = refl

  module _ (there : (p : ℕ) (d : ℕ × ℕ) → done_at a p ≡ Some d → IsPublished (recs a) d.0) where
    -- the value of a place that is a value or done is known
    pub known : (p : ℕ) → is_value a p ≡ true → (v : Rec) × (value_at a p ≡ Some v)
    known p h = go (recs a p) refl (or_cases _ _ h)
      where
        at_done : (s : Rec) (c : Bool) → (o : Option (ℕ × ℕ)) → done_at a p ≡ o → is_some_and (λ d. true) o ≡ true → (v : Rec) × (cond c (option_and_then (λ k. recs a k.0) o) (Some s) ≡ Some v)
        at_done s true None e k = absurd (true≢false (sym k))
        at_done s true (Some d) e k = let t = there p d e in (t.0, t.1)
        at_done s false o e k = (s, refl)

        by : (s : Rec) (c : Bool) → not c ≡ true → (o : Option (ℕ × ℕ)) → (v : Rec) × (cond c (option_and_then (λ k. recs a k.0) o) (Some s) ≡ Some v)
        by s true k o = absurd (true≢false (sym k))
        by s false k o = (s, refl)

        none : (o : Option (ℕ × ℕ)) → done_at a p ≡ o → is_some_and (λ d. true) o ≡ true → recs a p ≡ None → ⊥
        none None e k f = absurd (true≢false (sym k))
        none (Some d) e k f = no_done (node_at a p) e f
          where
            no_done : (n : Option StoreNode) → option_and_then (λ (m : StoreNode). kept m.state) n ≡ Some d → option_map (λ (m : StoreNode). m.rec) n ≡ None → ⊥
            no_done None g k' = cc
            no_done (Some m) g k' = cc

        go : (o : Option Rec) → recs a p ≡ o → (at_record false (λ r. not (is_pending r)) o ≡ true) ⊎ (is_done a p ≡ true) → (v : Rec) × (option_and_then (value_of a (done_at a p)) o ≡ Some v)
        go None e (inl k) = absurd (true≢false (sym k))
        go None e (inr k) = absurd (none (done_at a p) refl k e)
        go (Some s) e (inl k) = by s (is_pending s) k (done_at a p)
        go (Some s) e (inr k) = at_done s (is_pending s) (done_at a p) refl k

    cells_known : (n p : ℕ) → list_all (is_value a) (cell_places a n p) ≡ true → cell_places a n p ≡ cell_places b n p
    cells_known zero p h = refl
    cells_known (suc n) p h =
        let k = and_parts _ _ h in
        let v = known p k.0 in
        let more = rw v.1 at k.1 in
        rw (v.1, value_up a b x p v.0 v.1) (ap (λ ps. p ∷ ps) (by (cells_known n) (rest_of v.0) more))
      where
        by : ((q : ℕ) → list_all (is_value a) (cell_places a n q) ≡ true → cell_places a n q ≡ cell_places b n q) → (o : Option ℕ) → list_all (is_value a) (elim o [ None ↦ [] | Some q ↦ cell_places a n q ]) ≡ true → ◌≡◌ {A = List ℕ} (elim o [ None ↦ [] | Some q ↦ cell_places a n q ]) (elim o [ None ↦ [] | Some q ↦ cell_places b n q ])
        by below None k = refl
        by below (Some q) k = below q k

    kids_known : (q : ℕ) (u : Rec) → recs a q ≡ Some u → kids_of a u ≡ kids_of b u
    kids_known q (CatNode item kids z) e = let n = names q (CatNode item kids z) e in rw (n.0.2, x.records kids.0 n.0.1 n.0.2) refl
    kids_known q _ e = refl

    link_known : (len : ℕ) (r : Rec) → list_all (is_value a) (link_needs a len r) ≡ true → link_needs a len r ≡ link_needs b len r
    link_known len (RtTop front lenf rear lenr sched) h =
        let k = and_parts (is_value a front.0) _ h in
        let v = known front.0 k.0 in
        let more = rw v.1 at k.1 in
        rw (v.1, value_up a b x front.0 v.0 v.1) (ap (λ ps. front.0 ∷ ps) (by (first_children v.0) (eqb len 1) more))
      where
        behind : World → List ℕ → List ℕ
        behind w cs = elim cs [ [] ↦ [] | c ∷ _ ↦ at_record [] (kids_of w) (value_at w c) ]

        by : (cs : List ℕ) (one : Bool) → list_all (is_value a) (cs ++ cond one [] (sched.0 ∷ elim cs [ [] ↦ [] | c ∷ _ ↦ at_record [] (kids_of a) (value_at a c) ])) ≡ true
            → cs ++ cond one [] (sched.0 ∷ elim cs [ [] ↦ [] | c ∷ _ ↦ at_record [] (kids_of a) (value_at a c) ]) ≡ cs ++ cond one [] (sched.0 ∷ elim cs [ [] ↦ [] | c ∷ _ ↦ at_record [] (kids_of b) (value_at b c) ])
        by [] one k = refl
        by (c ∷ cs) true k = refl
        by (c ∷ cs) false k =
            let j = and_parts (is_value a c) _ k in
            let u = known c j.0 in
            let q = value_place a b names x c u.0 u.1 in
            rw (u.1, value_up a b x c u.0 u.1, kids_known q.0 u.0 q.1) refl
    link_known len _ h = refl

    -- where all needs are done, growth keeps what they are
    needs_known : (p : ℕ) (r : Rec) → recs a p ≡ Some r → list_all (is_value a) (needs a r) ≡ true → needs a r ≡ needs b r
    needs_known p (Reverse xs left) e h = cells_known left xs.0 h
    needs_known p (LinkAll queue len z o i) e h =
        let n = names p (LinkAll queue len z o i) e in
        let more = rw n.0.2 at h in
        rw (n.0.2, x.records queue.0 n.0.1 n.0.2) (link_known len n.0.1 more)
    needs_known p _ e h = refl

    pub needs_up : (p : ℕ) (r : Rec) → recs a p ≡ Some r → list_all (is_value a) (needs a r) ≡ true → list_all (is_value b) (needs b r) ≡ true
    needs_up p r e h = rw (← needs_known p r e h) (all_values_up (needs a r) h)
      where
        all_values_up : (ps : List ℕ) → Up (list_all (is_value a) ps) (list_all (is_value b) ps)
        all_values_up [] = same_up
        all_values_up (q ∷ qs) = and_up (is_value_up a b x q) (all_values_up qs)

    -- what is done stays well done
    pub done_well_up : (p : ℕ) (r : Rec) (d : ℕ × ℕ) → recs a p ≡ Some r → IsDoneWell a p r d → IsDoneWell b p r d
    done_well_up p r d e h =
        let t = at_true (λ s. not (is_pending s) && same_sort (sort_of s) (sort_of r)) (recs a d.0) h.value in
        let is : IsPublished (recs a) d.0 = (t.0, t.1) in
        record {
          pending = h.pending;
          value = holds_up a b x d.0 _ _ (λ s. same_up) h.value;
          needs = needs_up p r e h.needs;
          made = is_made_up a b names x p r d.0 e is h.made;
          steps = h.steps;
          height = rw (← height_kept (recs a) (recs b) names x.records d.0 is, ← height_kept (recs a) (recs b) names x.records p (r, e)) h.height;
          trees = implies_up (same_sort (sort_of r) sorts.TreeList) (λ k. sym (tree_list_kept (recs a) (recs b) names x.records d.0 is) ∙ k) h.trees;
          keys = implies_up (same_sort (sort_of r) sorts.Finger) (all_up (λ k. implies (keeps_keys k (recs a) p) (keeps_keys k (recs a) d.0)) (λ k. implies (keeps_keys k (recs b) p) (keeps_keys k (recs b) d.0)) (kinds.Seq ∷ kinds.Prio ∷ kinds.Ord ∷ [])
              (λ k j. rw (keeps_keys_kept (recs a) (recs b) names x.records k p (r, e), keeps_keys_kept (recs a) (recs b) names x.records k d.0 is) at j)) h.keys;
          levels = implies_up (same_sort (sort_of r) sorts.Finger) (λ k. rw (← level_kept (recs a) (recs b) names x.records d.0 is, ← own_level_kept (recs a) (recs b) names x.records p (r, e)) k) h.levels;
          means = sym (means_kept (recs a) (recs b) names x.records d.0 is) ∙ h.means ∙ means_kept (recs a) (recs b) names x.records p (r, e);
          cells = sym (cells_kept (recs a) (recs b) names x.records d.0 is) ∙ h.cells ∙ cells_kept (recs a) (recs b) names x.records p (r, e);
        }

  child_up : (q : ℕ) → IsPublished (recs a) q → Up (is_child (recs a) (a_child q)) (is_child (recs b) (a_child q))
  child_up q is h = rw (means_kept (recs a) (recs b) names x.records q is) at h

  children_up : (p : ℕ) → IsPublished (recs a) p → Up (has_children (recs a) p) (has_children (recs b) p)
  children_up p is h = rw (← cells_kept (recs a) (recs b) names x.records p is) (by (cells (recs a) p) (children_lower (recs a) names p is) h)
    where
      by : (es : List Entry) → AllByRecursion (IsLowerChild (recs a) p) es → Up (list_all (is_child (recs a)) es) (list_all (is_child (recs b)) es)
      by [] l = same_up
      by (an_item v ∷ es) l = and_up {x = false} {y = false} same_up (by es l.1)
      by (a_child q ∷ es) l = and_up (child_up q l.0.1) (by es l.1)

  queue_of_children_up : (p : ℕ) → Up (is_queue_of_children (recs a) p) (is_queue_of_children (recs b) p)
  queue_of_children_up p h =
      let k = at_true (on_rt_queue (λ front _ rear _ _. has_children (recs a) front && has_children (recs a) rear)) (recs a p) h in
      rw (x.records p k.0 k.1) (by k.0 (names p k.0 k.1) k.2)
    where
      by : (r : Rec) → AllByRecursion (IsNamedWell (recs a) p) (named r) → Up (on_rt_queue (λ front _ rear _ _. has_children (recs a) front && has_children (recs a) rear) r) (on_rt_queue (λ front _ rear _ _. has_children (recs b) front && has_children (recs b) rear) r)
      by (RtTop front _ rear _ _) n = and_up (children_up front.0 (n.0.1, n.0.2)) (children_up rear.0 (n.1.0.1, n.1.0.2))
      by _ n = same_up

  pub cats_up : (p : ℕ) (r : Rec) → AllByRecursion (IsNamedWell (recs a) p) (named r) → Up (is_cat (recs a) p r) (is_cat (recs b) p r)
  cats_up p (CatNode _ kids _) e = queue_of_children_up kids.0
  cats_up p (LinkAll queue _ _ _ _) e = queue_of_children_up queue.0
  cats_up p _ e = same_up
