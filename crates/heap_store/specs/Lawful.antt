-- When a world is lawful: what its records say of one another is true, each suspension of a family was made by the one
-- before it, what is done is what its kind of work makes, and the rows are a legal history.
use Rattle.std.specs.Prelude.{◌≡◌, ℕ, zero, suc, eqb, ltb, Bool, true, false, cond, ◌&&◌, Some}
use Rattle.std.specs.List.{list_all}
use Rattle.lazy_rec.specs.declared.records.Rec.{Rec}
use Rattle.lazy_rec.specs.declared.records.Rec.TheVariants.{StreamTop, BankTop, RtTop, TNil, CatNil, Append, Reverse, BankRot, RtRot}
use Rattle.lazy_rec.specs.declared.records.Sort.TheVariants as sorts
use Rattle.lazy_rec.specs.declared.states.SuspState.{SuspState}
use Rattle.lazy_rec.specs.declared.states.SuspState.TheVariants.{Unforced}
use Rattle.lazy_rec.specs.declared.events.Kind.{Kind}
use Rattle.lazy_rec.specs.declared.events.Kind.TheVariants as kinds
use Rattle.lazy_rec.specs.Named.{Records, NamedPlace, named, sort_of, same_sort, is_pending}
use Rattle.lazy_rec.specs.Packed.{in_range}
use Rattle.lazy_rec.specs.States.{state_in_range}
use Rattle.lazy_rec.specs.Units.{family_of}
use Rattle.heap_store.specs.World.{World, recs, state_at, holds, some_record, is_taken, done_at}
use Rattle.heap_store.specs.Streams.{is_nil, is_list_nil}
use Rattle.heap_store.specs.RtQueues.{on_rt_queue}
use Rattle.heap_store.specs.FingerTrees.{is_empty_tree}
use Rattle.heap_store.specs.Completion.{is_next}
pub use Rattle.heap_store.specs.Streams.{rest_of, walk, is_item, has_items, stream_of}
unfoldable pub use Rattle.heap_store.specs.Streams.{is_stream}
pub use Rattle.heap_store.specs.BankQueues.{bank_front_of, is_bank_rotation_of, is_bank_origin, is_any_bank_rotation, same_entry, same_entries, is_rotated, is_bank_queue}
unfoldable pub use Rattle.heap_store.specs.BankQueues.{is_bank_front}
pub use Rattle.heap_store.specs.RtQueues.{rt_front_of, is_any_rt_rotation, is_rt_queue}
unfoldable pub use Rattle.heap_store.specs.RtQueues.{is_rt_front}
pub use Rattle.heap_store.specs.Heaps.{insert_steps_of, is_heap_list, is_heap}
unfoldable pub use Rattle.heap_store.specs.Heaps.{insert_steps}
pub use Rattle.heap_store.specs.CatLists.{is_child, has_children, is_queue_of_children, is_cat}
pub use Rattle.heap_store.specs.Sizes.{size_in, is_size, has_sizes}
pub use Rattle.heap_store.specs.Keys.{key_of, key_for, has_key, has_keys_at, is_rising, keeps_keys}
unfoldable pub use Rattle.heap_store.specs.Keys.{has_keys}
pub use Rattle.heap_store.specs.Levels.{if_any, level_from, level_of, is_first_tree, is_rooted, is_finger}
unfoldable pub use Rattle.heap_store.specs.Levels.{level, is_of_level}
pub use Rattle.heap_store.specs.Heights.{cell_places, first_children, queue_places, kids_sched, kids_of, link_needs, needs, greatest, may_wait, height_of, has_low_names}
unfoldable pub use Rattle.heap_store.specs.Heights.{height}
pub use Rattle.heap_store.specs.Done.{keeps_each_kind, IsDoneWell}

-- ---- places

-- a test of each record and its place
abbrev pub EachRecord : World → (ℕ → Rec → Bool) → Type 0
EachRecord w test = (p : ℕ) (r : Rec) → recs w p ≡ Some r → test p r ≡ true

-- a named place is lower than p, published, and of its sort
abbrev pub is_named_well : Records → ℕ → NamedPlace → Bool
is_named_well rs p q = ltb q.0 p && holds rs q.0 (λ s. same_sort (sort_of s) q.1)

-- so is each place that a record names
abbrev pub names_well : World → ℕ → Rec → Bool
names_well w p r = list_all (is_named_well (recs w) p) (named r)

abbrev pub is_tree_nil : Rec → Bool
is_tree_nil TNil = true
is_tree_nil _ = false

abbrev pub is_cat_nil : Rec → Bool
is_cat_nil CatNil = true
is_cat_nil _ = false

-- the five fixed records
abbrev pub has_fixed : Records → Bool
has_fixed rs = holds rs 0 is_nil && holds rs 1 is_list_nil && holds rs 2 is_tree_nil && holds rs 3 is_cat_nil && holds rs 4 is_empty_tree

-- ---- which records a place leads to

-- streams, banker's and real-time queues reach only their own cells and suspensions, and have only items. Of a real-time
-- rotation it is said too, so that it holds of what a queue reaches through Done places
abbrev pub is_unmixed : Records → ℕ → Rec → Bool
is_unmixed rs p (StreamTop front _) = is_stream rs front.0 && has_items rs front.0
is_unmixed rs p (Append xs ys _ _ _) = is_stream rs xs.0 && is_stream rs ys.0 && has_items rs xs.0 && has_items rs ys.0
is_unmixed rs p (Reverse xs _) = is_stream rs xs.0 && has_items rs xs.0
is_unmixed rs p (BankTop _ front _ rear _ _ _ _) = is_bank_front rs front.0 && has_items rs front.0 && has_items rs rear.0
is_unmixed rs p (BankRot xs rear _ _ _) = has_items rs xs.0 && has_items rs rear.0
is_unmixed rs p (RtTop front _ _ _ _) = is_rt_front rs front.0
is_unmixed rs p (RtRot xs _ _ _ _ _) = is_rt_front rs xs.0
is_unmixed rs p _ = true

-- ---- families

-- an offset-0 record is its own origin, and a later one has a lower origin
abbrev pub has_origin : ℕ → Rec → Bool
has_origin p r = let f = family_of p r in cond (eqb f.1 0) (eqb f.0 p) (ltb f.0 p)

-- a suspension of a family at an offset, that makes a record next, and is claimed or done
abbrev pub is_maker : World → ℕ → ℕ → Rec → ℕ → Rec → Bool
is_maker w origin off r q s = is_pending s && eqb (family_of q s).0 origin && eqb (family_of q s).1 off && is_next w s r && is_taken w q

abbrev pub has_maker_at : World → Rec → ℕ → ℕ → Bool
has_maker_at w r origin zero = true
has_maker_at w r origin (suc off) = some_record w (is_maker w origin off r)

-- the suspension at the offset before made the record. (That a claimed one which made it is being built is said of hands.)
abbrev pub has_maker : World → ℕ → Rec → Bool
has_maker w p r = has_maker_at w r (family_of p r).0 (family_of p r).1

-- ---- the roots of versions

-- the root of a version is the top record of its kind
abbrev pub is_root : Records → Kind → ℕ → Rec → Bool
is_root rs kinds.Stream p r = same_sort (sort_of r) sorts.StreamTop
is_root rs kinds.Bankq p r = same_sort (sort_of r) sorts.BankTop
is_root rs kinds.Rtq p r = on_rt_queue (λ front _ rear _ _. has_items rs front && has_items rs rear) r
is_root rs kinds.Heap p r = same_sort (sort_of r) sorts.HeapTop
is_root rs kinds.Cat p r = same_sort (sort_of r) sorts.Cat
is_root rs k p r = same_sort (sort_of r) sorts.Finger && is_of_level rs p 0 && keeps_keys k rs p

-- ---- the laws

-- a state that was never touched, as a value's place shows it
abbrev pub is_still : SuspState → Bool
is_still (Unforced k) = eqb k 0
is_still _ = false

-- the laws of each record that speak of what it names
pub record HasLaws (w : World) (p : ℕ) (r : Rec) : Type 0 where
  pub range : in_range r ≡ true
  pub names : names_well w p r ≡ true
  pub sizes : has_sizes (recs w) p r ≡ true
  pub unmixed : is_unmixed (recs w) p r ≡ true
  pub bank_queue : is_bank_queue (recs w) p r ≡ true
  pub rt_queue : is_rt_queue w p r ≡ true
  pub heap : is_heap (recs w) p r ≡ true
  pub cat : is_cat (recs w) p r ≡ true
  pub finger : is_finger (recs w) p r ≡ true
  pub heights : has_low_names (recs w) p r ≡ true

-- the places of a world are lawful
pub record IsLawful (w : World) : Type 0 where
  pub fixed : has_fixed (recs w) ≡ true
  pub each : (p : ℕ) (r : Rec) → recs w p ≡ Some r → HasLaws w p r
  pub origins : EachRecord w has_origin
  pub one : (p : ℕ) (r : Rec) → recs w p ≡ Some r → is_pending r ≡ true → (q : ℕ) (s : Rec) → recs w q ≡ Some s → is_pending s ≡ true → family_of p r ≡ family_of q s → p ≡ q
  pub makers : EachRecord w (has_maker w)
  pub done : (p : ℕ) (r : Rec) → recs w p ≡ Some r → (d : ℕ × ℕ) → done_at w p ≡ Some d → IsDoneWell w p r d
  pub states : (p : ℕ) (s : SuspState) → state_at w p ≡ Some s → state_in_range s ≡ true
  pub still : (p : ℕ) (r : Rec) → recs w p ≡ Some r → is_pending r ≡ false → (s : SuspState) → state_at w p ≡ Some s → is_still s ≡ true
