-- Growth keeps what a completion made, and what comes next in a family.
use Rattle.std.proofs.Common.{ℕ, suc, ◌-◌, ◌+◌, eqb, ltb, Bool, true, false, cond, ◌&&◌, Option, Some, None, List, [], ◌∷◌, take}
use Rattle.lazy_rec.specs.declared.records.Rec.{Rec}
use Rattle.lazy_rec.specs.declared.records.Rec.TheVariants.{Cons, LCons, RtTop, CatNode, Node, Digit, Single, Deep, Append, BankRot, RtRot, LinkAll, PushL, PushR, DeepL, DeepR, Concat}
use Rattle.heap_store.specs.World.{World, recs, holds, same_place, value_at}
use Rattle.heap_store.specs.Completion.{on_cell, on_list_cell, is_cell, first_cell, same_bool, is_append, is_bank_rotation, is_rt_rotation, next_rt_rotation, on_rt_queue, is_queue, is_new_rotation, is_queue_with, is_queue_after, next_links, is_linked, same_places, on_digit, on_node, is_digit, is_node, are_nodes, is_tree, Middle, tree, push_left, push_right, without_left, without_right, shorter_left, shorter_right, between, Made, one, deep, is_middle, is_middle_at, is_top, is_nil, is_list_nil}
use Rattle.heap_store.proofs.GrowthLaws.{Up, and_up, same_up, at_up, holds_up, place_up, value_up}
use Rattle.heap_store.specs.Growth.{Grows}

abbrev pub CellTest : Type 0
CellTest = Bool → ℕ → ℕ → Bool

pub on_cell_up : (f g : CellTest) → ((c : Bool) (v r : ℕ) → Up (f c v r) (g c v r)) → (s : Rec) → Up (on_cell f s) (on_cell g s)
on_cell_up f g up (Cons c v rest) = up c v rest.0
on_cell_up f g up _ = same_up

pub on_list_cell_up : (f g : CellTest) → ((c : Bool) (v r : ℕ) → Up (f c v r) (g c v r)) → (s : Rec) → Up (on_list_cell f s) (on_list_cell g s)
on_list_cell_up f g up (LCons c v rest) = up c v rest.0
on_list_cell_up f g up _ = same_up

pub is_cell_up : (c : Bool) (v : ℕ) (f g : ℕ → Bool) → ((r : ℕ) → Up (f r) (g r)) → (s : Rec) → Up (is_cell c v f s) (is_cell c v g s)
is_cell_up c v f g up (Cons c' v' rest) = and_up (same_up {x = same_bool c c' && eqb v v'}) (up rest.0)
is_cell_up c v f g up _ = same_up

abbrev pub QueueTest : Type 0
QueueTest = ℕ → ℕ → ℕ → ℕ → ℕ → Bool

pub on_queue_up : (f g : QueueTest) → ((p l q m s : ℕ) → Up (f p l q m s) (g p l q m s)) → (r : Rec) → Up (on_rt_queue f r) (on_rt_queue g r)
on_queue_up f g up (RtTop front lenf rear lenr sched) = up front.0 lenf rear.0 lenr sched.0
on_queue_up f g up _ = same_up

on_digit_up : (f g : List ℕ → Bool) → ((es : List ℕ) → Up (f es) (g es)) → (r : Rec) → Up (on_digit f r) (on_digit g r)
on_digit_up f g up (Digit count e1 e2 e3 e4 _ _) = up _
on_digit_up f g up _ = same_up

on_node_up : (f g : List ℕ → Bool) → ((es : List ℕ) → Up (f es) (g es)) → (r : Rec) → Up (on_node f r) (on_node g r)
on_node_up f g up (Node count e1 e2 e3 _ _) = up _
on_node_up f g up _ = same_up

pub cond_up : (c : Bool) {x y u v : Bool} → Up x y → Up u v → Up (cond c x u) (cond c y v)
cond_up true f g = f
cond_up false f g = g

module _ (a b : World) (x : Grows a b) where
  pub first_cell_up : (p : ℕ) (f g : CellTest) → ((c : Bool) (v r : ℕ) → Up (f c v r) (g c v r)) → Up (first_cell a p f) (first_cell b p g)
  first_cell_up p f g up = at_up _ _ (value_at a p) (value_at b p) (value_up a b x p) (on_cell_up f g up)

  pub is_append_up : (xs ys left origin off : ℕ) (s : Rec) → Up (is_append a xs ys left origin off s) (is_append b xs ys left origin off s)
  is_append_up xs ys left origin off (Append xs' ys' _ _ _) = and_up (and_up (and_up (and_up (place_up a b x xs xs'.0) (place_up a b x ys ys'.0)) same_up) same_up) same_up
  is_append_up xs ys left origin off _ = same_up

  pub is_bank_up : (xs ys left origin off : ℕ) (s : Rec) → Up (is_bank_rotation a xs ys left origin off s) (is_bank_rotation b xs ys left origin off s)
  is_bank_up xs ys left origin off (BankRot xs' ys' _ _ _) = and_up (and_up (and_up (and_up (place_up a b x xs xs'.0) (place_up a b x ys ys'.0)) same_up) same_up) same_up
  is_bank_up xs ys left origin off _ = same_up

  is_rt_up : (xs : ℕ) (f g h k : ℕ → Bool) → ((p : ℕ) → Up (f p) (g p)) → ((p : ℕ) → Up (h p) (k p)) → (left origin off : ℕ) (s : Rec) → Up (is_rt_rotation a xs f h left origin off s) (is_rt_rotation b xs g k left origin off s)
  is_rt_up xs f g h k up up' left origin off (RtRot xs' rear acc _ _ _) = and_up (and_up (and_up (and_up (and_up (place_up a b x xs xs'.0) (up rear.0)) (up' acc.0)) same_up) same_up) same_up
  is_rt_up xs f g h k up up' left origin off _ = same_up

  pub next_rt_up : (rest rear acc left origin off : ℕ) (s : Rec) → Up (next_rt_rotation a rest rear acc left origin off s) (next_rt_rotation b rest rear acc left origin off s)
  next_rt_up rest rear acc left origin off s = holds_up a b x rear _ _ (on_list_cell_up _ _ (λ c v rear'.
      is_rt_up rest _ _ _ _ (place_up a b x rear') (λ acc'. holds_up a b x acc' _ _ (is_cell_up c v _ _ (place_up a b x acc))) (left - 1) origin (suc off) s))

  is_queue_up : (front lenf : ℕ) (f g : ℕ → Bool) → ((p : ℕ) → Up (f p) (g p)) → (lenr sched : ℕ) (s : Rec) → Up (is_queue a front lenf f lenr sched s) (is_queue b front lenf g lenr sched s)
  is_queue_up front lenf f g up lenr sched (RtTop front' _ rear' _ sched') = and_up (and_up (and_up (and_up (place_up a b x front front'.0) same_up) (up rear'.0)) same_up) (place_up a b x sched sched'.0)
  is_queue_up front lenf f g up lenr sched _ = same_up

  is_new_up : (xs n : ℕ) (f g : ℕ → Bool) → ((p : ℕ) → Up (f p) (g p)) → (s : Rec) → Up (is_new_rotation a xs n f s) (is_new_rotation b xs n g s)
  is_new_up xs n f g up (RtTop front lenf rear lenr sched) = and_up (and_up (same_up {x = eqb lenf (n + suc n) && eqb lenr 0 && eqb sched.0 front.0}) (holds_up a b x rear.0 is_list_nil is_list_nil (λ r. same_up)))
      (holds_up a b x front.0 (is_rt_rotation a xs f (λ acc. holds (recs a) acc is_nil) n front.0 0) (is_rt_rotation b xs g (λ acc. holds (recs b) acc is_nil) n front.0 0) (is_rt_up xs f g _ _ up (λ acc. holds_up a b x acc is_nil is_nil (λ r. same_up)) n front.0 0))
  is_new_up xs n f g up _ = same_up

  put_up : (rear : ℕ) (f g : Bool → ℕ → Bool) → ((c : Bool) (v : ℕ) → Up (f c v) (g c v)) → (r : ℕ) → Up (holds (recs a) r (on_list_cell (λ c v rest. f c v && same_place a rear rest))) (holds (recs b) r (on_list_cell (λ c v rest. g c v && same_place b rear rest)))
  put_up rear f g up r = holds_up a b x r _ _ (on_list_cell_up _ _ (λ c v rest. and_up (up c v) (place_up a b x rear rest)))

  pub with_up : (q : Rec) (f g : Bool → ℕ → Bool) → ((c : Bool) (v : ℕ) → Up (f c v) (g c v)) → (s : Rec) → Up (is_queue_with a q f s) (is_queue_with b q g s)
  with_up (RtTop front lenf rear lenr sched) f g up s =
      cond_up (ltb lenr lenf) (first_cell_up sched.0 _ _ (λ _ _ s'. is_queue_up front.0 lenf _ _ (put_up rear.0 f g up) (suc lenr) s' s)) (is_new_up front.0 lenf _ _ (put_up rear.0 f g up) s)
  with_up _ f g up s = same_up

  pub after_up : (q s : Rec) → Up (is_queue_after a q s) (is_queue_after b q s)
  after_up (RtTop front lenf rear lenr sched) s = first_cell_up front.0 _ _ (λ _ _ front'.
      cond_up (ltb lenr lenf) (first_cell_up sched.0 _ _ (λ _ _ s'. is_queue_up front' (lenf - 1) _ _ (place_up a b x rear.0) lenr s' s)) (is_new_up front' (lenf - 1) _ _ (place_up a b x rear.0) s))
  after_up _ s = same_up

  pub next_links_up : (queue len origin off : ℕ) (s : Rec) → Up (next_links a queue len origin off s) (next_links b queue len origin off s)
  next_links_up queue len origin off (LinkAll queue' _ _ _ _) = and_up (and_up (and_up (at_up _ _ (recs a queue) (recs b queue) (x.records queue) (λ q. holds_up a b x queue'.0 _ _ (after_up q))) same_up) same_up) same_up
  next_links_up queue len origin off _ = same_up

  pub is_linked_up : (r : Rec) (f g : ℕ → Bool) → ((p : ℕ) → Up (f p) (g p)) → (s : Rec) → Up (is_linked a r f s) (is_linked b r g s)
  is_linked_up (CatNode item kids _) f g up (CatNode item' kids' _) = and_up same_up (at_up _ _ (recs a kids.0) (recs b kids.0) (x.records kids.0) (λ q. holds_up a b x kids'.0 _ _ (with_up q _ _ (λ c v. and_up same_up (up v)))))
  is_linked_up _ f g up _ = same_up

  same_places_up : (ps qs : List ℕ) → Up (same_places a ps qs) (same_places b ps qs)
  same_places_up [] [] = same_up
  same_places_up (p ∷ ps) (q ∷ qs) = and_up (place_up a b x p q) (same_places_up ps qs)
  same_places_up _ _ = same_up

  is_digit_up : (es : List ℕ) (p : ℕ) → Up (is_digit a es p) (is_digit b es p)
  is_digit_up es p = holds_up a b x p _ _ (on_digit_up _ _ (same_places_up es))

  is_node_up : (es : List ℕ) (p : ℕ) → Up (is_node a es p) (is_node b es p)
  is_node_up es p = holds_up a b x p _ _ (on_node_up _ _ (same_places_up es))

  are_nodes_up : (ns : List (List ℕ)) (ps : List ℕ) → Up (are_nodes a ns ps) (are_nodes b ns ps)
  are_nodes_up [] [] = same_up
  are_nodes_up (n ∷ ns) (p ∷ ps) = and_up (is_node_up n p) (are_nodes_up ns ps)
  are_nodes_up _ _ = same_up

  is_tree_up : (t : Option ℕ) (p : ℕ) → Up (is_tree a t p) (is_tree b t p)
  is_tree_up None p = holds_up a b x p _ _ (λ r. same_up)
  is_tree_up (Some t) p = place_up a b x t p

  pub is_middle_up : (origin off : ℕ) (m : Middle) (s : Rec) → Up (is_middle a origin off m s) (is_middle b origin off m s)
  is_middle_up origin off (push_left t ns) (PushL count _ t' e1 e2 _ _ _) = and_up (and_up (and_up (is_tree_up t t'.0) (are_nodes_up ns (take count (e1.0 ∷ e2.0 ∷ [])))) same_up) same_up
  is_middle_up origin off (push_right t ns) (PushR count _ t' e1 e2 _ _ _) = and_up (and_up (and_up (is_tree_up t t'.0) (are_nodes_up ns (take count (e1.0 ∷ e2.0 ∷ [])))) same_up) same_up
  is_middle_up origin off (without_left m d) (DeepL m' d' _ _ _ _) = and_up (and_up (and_up (place_up a b x m m'.0) (is_digit_up d d'.0)) same_up) same_up
  is_middle_up origin off (without_right m d) (DeepR m' d' _ _ _ _) = and_up (and_up (and_up (place_up a b x m m'.0) (is_digit_up d d'.0)) same_up) same_up
  is_middle_up origin off (shorter_left es m r) (Deep l' m' r' _ _) = and_up (and_up (is_digit_up es l'.0) (place_up a b x m m'.0)) (is_digit_up r r'.0)
  is_middle_up origin off (shorter_right l m es) (Deep l' m' r' _ _) = and_up (and_up (is_digit_up l l'.0) (place_up a b x m m'.0)) (is_digit_up es r'.0)
  is_middle_up origin off (between l r ns) (Concat _ l' r' d _ _ _) = and_up (and_up (and_up (and_up (place_up a b x l l'.0) (place_up a b x r r'.0)) (holds_up a b x d.0 _ _ (on_digit_up _ _ (are_nodes_up ns)))) same_up) same_up
  is_middle_up origin off _ _ = same_up

  pub is_middle_at_up : (origin off : ℕ) (m : Middle) (p : ℕ) → Up (is_middle_at a origin off m p) (is_middle_at b origin off m p)
  is_middle_at_up origin off (tree t) p = is_tree_up t p
  is_middle_at_up origin off m p = holds_up a b x p _ _ (is_middle_up origin off m)

  pub is_top_up : (origin off : ℕ) (t : Made) (s : Rec) → Up (is_top a origin off t s) (is_top b origin off t s)
  is_top_up origin off (one e) (Single e' _ _) = place_up a b x e e'.0
  is_top_up origin off (deep l m r) (Deep l' m' r' _ _) = and_up (and_up (is_digit_up l l'.0) (is_middle_at_up origin off m m'.0)) (is_digit_up r r'.0)
  is_top_up origin off _ _ = same_up
