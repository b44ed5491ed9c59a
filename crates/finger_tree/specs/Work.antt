-- The pending work of finger trees: which records it is, and what its prepare tells its build.
use Rattle.std.specs.Prelude.{◌≡◌, ℕ, eqb, cond, Bool, true, false, ◌&&◌, Option, Some, None, option_map, option_and_then}
use Rattle.lazy_rec.specs.declared.places.Ref.{Ref}
use Rattle.lazy_rec.specs.declared.records.Rec.{Rec}
use Rattle.lazy_rec.specs.declared.records.Rec.TheVariants.{PushL, PushR, DeepL, DeepR, Concat}
use Rattle.lazy_rec.specs.Named.{is_pending}
use Rattle.heap_store.specs.World.{World, recs}
use Rattle.heap_store.specs.Completion as top
use Rattle.heap_store.specs.Completion.{Made, made_tree}
use Rattle.finger_level.specs.declared.level.Pushed.{Pushed}
use Rattle.finger_level.specs.declared.level.Pushed.TheVariants as pushes
use Rattle.finger_level.specs.Level.{made_places, kept_of, drawn_kept}
use Rattle.finger_level.specs.Reads.{is_tree_rec}
use Rattle.finger_level.specs.Puts.{push_record, tail_record, concat_record}
use Rattle.finger_tree.specs.declared.push.Push.{Push}
use Rattle.finger_tree.specs.declared.tail.Tail.{Tail}
use Rattle.finger_tree.specs.declared.concat.Join.{Join}

-- a suspended push
abbrev pub is_push : Rec → Bool
is_push (PushL _ _ _ _ _ _ _ _) = true
is_push (PushR _ _ _ _ _ _ _ _) = true
is_push _ = false

-- a suspended tail
abbrev pub is_tail : Rec → Bool
is_tail (DeepL _ _ _ _ _ _) = true
is_tail (DeepR _ _ _ _ _ _) = true
is_tail _ = false

-- a suspended concatenation
abbrev pub is_join : Rec → Bool
is_join (Concat _ _ _ _ _ _ _) = true
is_join _ = false

-- any suspension of a tree: a push or a tail may wait for each
abbrev pub is_finger_work : Rec → Bool
is_finger_work r = is_pending r && is_tree_rec r

-- the elements of a suspended push's record
abbrev pub pushed_at : ℕ → Ref → Ref → Pushed
pushed_at count e1 e2 = cond (eqb count 1) (pushes.One e1) (pushes.Two e1 e2)

-- the tree onto which elements are pushed, of two with elements between them
abbrev pub main_of : Made → Made → Made
main_of (top.deep l m r) t = top.deep l m r
main_of s t = t

-- the level that the work is told by: of a push that of its tree, of a tail that of its middle, of a concatenation that of the tree
-- onto which its elements are pushed
abbrev pub shown_by : World → Rec → Option Made
shown_by w (PushL _ _ t _ _ _ _ _) = top.top_at w t.0
shown_by w (PushR _ _ t _ _ _ _ _) = top.top_at w t.0
shown_by w (DeepL m _ _ _ _ _) = top.top_at w m.0
shown_by w (DeepR m _ _ _ _ _) = top.top_at w m.0
shown_by w (Concat _ l r _ _ _ _) = option_and_then (λ s. option_map (main_of s) (top.top_at w r.0)) (top.top_at w l.0)
shown_by w _ = None

-- how many digits beside the one that it makes are new, by the level that it is told by
abbrev pub kept_by : Rec → Made → ℕ
kept_by (DeepL _ _ _ _ _ _) shown = drawn_kept shown
kept_by (DeepR _ _ _ _ _ _) shown = drawn_kept shown
kept_by _ shown = kept_of shown

-- what the readiness of such work tells: its places, from the level that it makes and the one that it is told by
pub record LevelTold (w : World) (s nodes : ℕ) : Type 0 where
  pub rec : Rec
  pub here : recs w s ≡ Some rec
  pub shown : Made
  pub made : Made
  pub top : shown_by w rec ≡ Some shown
  pub makes : made_tree w rec ≡ Some made
  pub count : nodes ≡ made_places (kept_by rec shown) made

-- the record of a suspended push
abbrev pub suspended : Push → Rec
suspended p = push_record p.side p.tree p.es p.origin p.off p.weight

-- that of a suspended concatenation
abbrev pub joining : Join → Rec
joining j = concat_record j.left j.list j.right j.origin j.off j.weight

-- and that of a suspended tail
abbrev pub hanging : Tail → Rec
hanging t = tail_record t.side t.middle t.digit t.origin t.off t.weight
