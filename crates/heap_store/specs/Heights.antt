-- What a suspension needs before it can be done, and the heights by which needs never run in a circle.
use Rattle.std.specs.Prelude.{ℕ, zero, suc, eqb, ltb, max, Bool, true, cond, not, ◌&&◌, Some, None, List, [], ◌∷◌, ◌++◌, fold, map, option_and_then}
use Rattle.std.specs.List.{list_all}
use Rattle.lazy_rec.specs.declared.records.Rec.{Rec}
use Rattle.lazy_rec.specs.declared.records.Rec.TheVariants.{Cons, RtTop, CatNode, Append, Reverse, BankRot, RtRot, HeapInsert, HeapMerge, LinkAll, PushL, PushR, DeepL, DeepR, Concat}
use Rattle.lazy_rec.specs.Tests.{implies}
use Rattle.lazy_rec.specs.ByPlace.{by_place}
use Rattle.lazy_rec.specs.Named.{Records, NamedPlace, named, at_record, is_pending}
use Rattle.lazy_rec.specs.Units.{family_of}
use Rattle.heap_store.specs.World.{World, recs, value_at}
use Rattle.heap_store.specs.Streams.{rest_of}
use Rattle.heap_store.specs.RtQueues.{is_any_rt_rotation}

-- ---- needs

-- the places of the first cells of a stream, as far as they are known
abbrev pub cell_places : World → ℕ → ℕ → List ℕ
cell_places w zero p = []
cell_places w (suc n) p = p ∷ elim (option_and_then rest_of (value_at w p)) [ None ↦ [] | Some q ↦ cell_places w n q ]

abbrev pub first_children : Rec → List ℕ
first_children (Cons true child _) = child ∷ []
first_children _ = []

abbrev pub queue_places : Rec → List ℕ
queue_places (RtTop front _ _ _ sched) = front.0 ∷ sched.0 ∷ []
queue_places _ = []

abbrev pub kids_sched : Rec → List ℕ
kids_sched (RtTop _ _ _ _ sched) = sched.0 ∷ []
kids_sched _ = []

abbrev pub kids_of : World → Rec → List ℕ
kids_of w (CatNode _ kids _) = at_record [] kids_sched (recs w kids.0)
kids_of w _ = []

-- what the links of a queue need, as far as it is known
abbrev pub link_needs : World → ℕ → Rec → List ℕ
link_needs w len (RtTop front _ _ _ sched) = let children = at_record [] first_children (value_at w front.0) in
    front.0 ∷ children ++ cond (eqb len 1) [] (sched.0 ∷ elim children [ [] ↦ [] | c ∷ _ ↦ at_record [] (kids_of w) (value_at w c) ])
link_needs w len _ = []

-- the places that must be values or done before a suspension can be. Where one isn't, what lies behind it isn't known yet
abbrev pub needs : World → Rec → List ℕ
needs w (Append xs _ _ _ _) = xs.0 ∷ []
needs w (Reverse xs left) = cell_places w left xs.0
needs w (BankRot xs _ left _ _) = cond (eqb left 0) [] (xs.0 ∷ [])
needs w (RtRot xs _ _ left _ _) = cond (eqb left 0) [] (xs.0 ∷ [])
needs w (HeapInsert _ list _) = list.0 ∷ []
needs w (HeapMerge list1 list2 _ _) = list1.0 ∷ list2.0 ∷ []
needs w (LinkAll queue len _ _ _) = at_record [] (link_needs w len) (recs w queue.0)
needs w (PushL _ _ tree _ _ _ _ _) = tree.0 ∷ []
needs w (PushR _ _ tree _ _ _ _ _) = tree.0 ∷ []
needs w (DeepL middle _ _ _ _ _) = middle.0 ∷ []
needs w (DeepR middle _ _ _ _ _) = middle.0 ∷ []
needs w (Concat _ left right _ _ _ _) = left.0 ∷ right.0 ∷ []
needs w _ = []

-- ---- heights

abbrev pub greatest : List ℕ → ℕ
greatest ns = fold max 0 ns

-- work that may have to wait for other work: a real-time rotation's needs are always done
abbrev pub may_wait : Rec → Bool
may_wait r = is_pending r && not (is_any_rt_rotation r)

-- the height of a place: the origin of a suspension, and the greatest height of what a value or a real-time rotation names
abbrev pub height_of : (ℕ → ℕ) → ℕ → Rec → ℕ
height_of lower p r = cond (may_wait r) (family_of p r).0 (greatest (map (λ (q : NamedPlace). lower q.0) (named r)))

unfoldable pub height : Records → ℕ → ℕ
height rs = by_place 0 (λ lower p. at_record 0 (height_of lower p) (rs p))

-- what a suspension names has a height below its origin. So what it needs, now or later, has a lower origin, and needs never
-- run in a circle
abbrev pub has_low_names : Records → ℕ → Rec → Bool
has_low_names rs p r = implies (may_wait r) (list_all (λ (q : NamedPlace). ltb (height rs q.0) (family_of p r).0) (named r))
