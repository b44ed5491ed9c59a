-- The rows' laws last while places change.
use Rattle.std.proofs.Common.{◌≡◌, ℕ, ◌+◌, refl, sym, ap, ◌∙◌, eqb, ltb, Bool, Option, Some, None, List}
use Rattle.std.proofs.lemmas.Bool.{and_parts}
use Rattle.lazy_rec.specs.declared.records.Rec.{Rec}
use Rattle.lazy_rec.specs.declared.records.Rec.TheVariants.{StreamTop, BankTop, RtTop, HeapTop, CatNode, Deep}
use Rattle.lazy_rec.specs.declared.events.Kind.{Kind}
use Rattle.lazy_rec.specs.declared.events.Kind.TheVariants as kinds
use Rattle.lazy_rec.specs.declared.events.Op.{Op}
use Rattle.lazy_rec.specs.declared.events.Op.TheVariants as ops
use Rattle.lazy_rec.specs.declared.events.Event.{Event}
use Rattle.lazy_rec.specs.declared.events.Reply.{Reply}
use Rattle.heap_store.specs.declared.nodes.Node.{Node}
use Rattle.heap_store.specs.declared.versions.Version.{Version}
use Rattle.heap_store.specs.World.{World, recs, holds}
use Rattle.heap_store.specs.Rows.{row_at, version_at}
use Rattle.heap_store.specs.Growth.{Grows}
use Rattle.heap_store.specs.Legal.{IsLegal, in_order}
use Rattle.heap_store.specs.Lawful.{is_root}
use Rattle.heap_store.specs.LookedAt.{HasRoots, looked_at_kids, has_one, looked_at, has_looked, row_has_looked, is_result, is_longer_by, size_of}
use Rattle.heap_store.proofs.NameLaws.{NamesWell, IsPublished}
use Rattle.heap_store.proofs.GrowthLaws.{Up, and_up, same_up, at_up, at_true, is_value_up}
use Rattle.heap_store.proofs.CompletionLaws.{cond_up, first_cell_up}
use Rattle.heap_store.proofs.MeaningLaws.{cells_kept, means_kept}
use Rattle.heap_store.proofs.MadeLaws.{elements_up}
use Rattle.heap_store.proofs.RecordLaws.{level_kept, keeps_keys_kept}

module _ (a b : World) (names : NamesWell (recs a)) (x : Grows a b) where
  root_up : (k : Kind) (p : ℕ) (r : Rec) → recs a p ≡ Some r → Up (is_root (recs a) k p r) (is_root (recs b) k p r)
  root_up kinds.Stream p r e = same_up
  root_up kinds.Bankq p r e = same_up
  root_up kinds.Heap p r e = same_up
  root_up kinds.Cat p r e = same_up
  root_up kinds.Rtq p (RtTop front lenf rear lenr sched) e = let n = names p (RtTop front lenf rear lenr sched) e in
      λ h. rw (cells_kept (recs a) (recs b) names x.records front.0 (n.0.1, n.0.2), cells_kept (recs a) (recs b) names x.records rear.0 (n.1.0.1, n.1.0.2)) at h
  root_up kinds.Rtq p _ e = same_up
  root_up k p r e = λ h. rw (level_kept (recs a) (recs b) names x.records p (r, e), keeps_keys_kept (recs a) (recs b) names x.records k p (r, e)) at h

  -- the root of a version stays the top record of its kind
  pub has_root_up : (k : Kind) (p : ℕ) → Up (holds (recs a) p (is_root (recs a) k p)) (holds (recs b) p (is_root (recs b) k p))
  has_root_up k p h =
      let t = at_true (is_root (recs a) k p) (recs a p) h in
      rw (x.records p t.0 t.1) (root_up k p t.0 t.1 t.2)

  kids_up : (op : Op) (r : Rec) → Up (looked_at_kids a op r) (looked_at_kids b op r)
  kids_up ops.Snoc (RtTop _ _ _ _ sched) = is_value_up a b x sched.0
  kids_up ops.Append (RtTop _ _ _ _ sched) = is_value_up a b x sched.0
  kids_up ops.Tail (RtTop front lenf _ lenr sched) = cond_up (eqb (lenf + lenr) 0) same_up
      (and_up (first_cell_up a b x front.0 _ _ (λ c v _. and_up same_up (is_value_up a b x v))) (cond_up (ltb 1 (lenf + lenr)) (is_value_up a b x sched.0) same_up))
  kids_up _ _ = same_up

  one_up : (p : ℕ) → IsPublished (recs a) p → has_one a p ≡ has_one b p
  one_up p is = rw (elements_up a b names x p is) refl

  looked_up : (p : ℕ) (op : Op) (longer : Bool) (r : Rec) → recs a p ≡ Some r → Up (looked_at a op longer r) (looked_at b op longer r)
  looked_up p ops.Head longer (StreamTop front _) e = is_value_up a b x front.0
  looked_up p ops.Tail longer (StreamTop front _) e = is_value_up a b x front.0
  looked_up p ops.Head longer (BankTop _ front _ _ _ _ _ _) e = is_value_up a b x front.0
  looked_up p ops.Tail longer (BankTop _ front _ _ _ _ _ _) e = is_value_up a b x front.0
  looked_up p ops.Head longer (RtTop front _ _ _ _) e = is_value_up a b x front.0
  looked_up p ops.Tail longer (RtTop front _ _ _ sched) e = and_up (is_value_up a b x front.0) (is_value_up a b x sched.0)
  looked_up p ops.Snoc longer (RtTop _ _ _ _ sched) e = is_value_up a b x sched.0
  looked_up p ops.Min longer (HeapTop list _ _) e = is_value_up a b x list.0
  looked_up p ops.Delmin longer (HeapTop list _ _) e = is_value_up a b x list.0
  looked_up p ops.Popl longer (Deep left middle right z k) e = let n = names p (Deep left middle right z k) e in
      λ h. cond_up (has_one b left.0) (is_value_up a b x middle.0) same_up (rw (one_up left.0 (n.0.1, n.0.2)) at h)
  looked_up p ops.Popr longer (Deep left middle right z k) e = let n = names p (Deep left middle right z k) e in
      λ h. cond_up (has_one b right.0) (is_value_up a b x middle.0) same_up (rw (one_up right.0 (n.1.1.0.1, n.1.1.0.2)) at h)
  looked_up p op longer (CatNode item kids _) e = cond_up longer (at_up _ _ (recs a kids.0) (recs b kids.0) (x.records kids.0) (kids_up op)) same_up
  looked_up p _ longer _ e = same_up

  -- what an event has looked at stays known
  pub has_looked_up : (op : Op) (reply : Reply) (root other : ℕ) → Up (has_looked a op reply root other) (has_looked b op reply root other)
  has_looked_up (ops.New _) reply root other = same_up
  has_looked_up op reply root other = cond_up (is_result reply) (λ h. (let k = at_true (looked_at a op (is_longer_by op other)) (recs a root) h in rw (x.records root k.0 k.1) (looked_up root op (is_longer_by op other) k.0 k.1 k.2))) same_up

-- the same rows over other places
module _ (w : World) (nodes : List (Option Node)) (names : NamesWell (recs w)) (x : Grows w (record w { nodes = nodes })) where
  root_there : IsLegal w → (n : ℕ) (v : Version) → version_at (row_at w) n ≡ Some v → IsPublished (recs w) v.root.0
  root_there legal n v f =
      let t = at_true _ (recs w v.root.0) (and_parts _ _ (legal.versions n v f)).1 in (t.0, t.1)

  pub legal_kept : IsLegal w → IsLegal (record w { nodes = nodes })
  legal_kept legal = record {
    ranges = legal.ranges;
    trim = legal.trim;
    bases = legal.bases;
    begun = legal.begun;
    kinds = legal.kinds;
    seconds = legal.seconds;
    versions = λ n v f. and_up same_up (at_up _ _ (recs w v.root.0) (recs (record w { nodes = nodes }) v.root.0) (x.records v.root.0) (λ t. same_up)) (legal.versions n v f);
    replies = legal.replies;
    meanings = λ n v f. (let k = means_kept (recs w) (recs (record w { nodes = nodes })) names x.records v.root.0 (root_there legal n v f) in ap (in_order v.kind) (sym k) ∙ legal.meanings n v f);
  }

  pub roots_kept : HasRoots w → HasRoots (record w { nodes = nodes })
  roots_kept roots = record {
    roots = λ n v f. has_root_up w (record w { nodes = nodes }) names x v.kind v.root.0 (roots.roots n v f);
    looked = λ i r e told f. by r.event told (version_at (row_at w) r.event.base) (roots.looked i r e told f);
  }
    where
      by : (e : Event) (told : Reply) (base : Option Version) → Up (row_has_looked w (row_at w) e told base) (row_has_looked (record w { nodes = nodes }) (row_at w) e told base)
      by e told None = same_up
      by e told (Some base) = has_looked_up w (record w { nodes = nodes }) names x e.op told base.root.0 (size_of (version_at (row_at w) e.other))
