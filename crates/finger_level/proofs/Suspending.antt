-- The suspended pushes of a middle.
use Rattle.std.proofs.Common.{◌≡◌, ℕ, suc, ◌<◌, ◌≤◌, eqb, ltb, refl, sym, ◌∙◌, arith, Bool, true, Some, List, [], ◌∷◌, length}
use Rattle.std.specs.Prelude.{flat_map}
use Rattle.std.specs.List.{AllByRecursion}
use Rattle.std.proofs.lemmas.Bool.{and_from, or_left, eq-eqb, lt-ltb, cond-false, ne_eqb}
use Rattle.lazy_rec.specs.declared.places.Ref.{Ref}
use Rattle.lazy_rec.specs.declared.records.Rec.{Rec}
use Rattle.lazy_rec.specs.declared.records.Rec.TheVariants.{PushL, PushR, DeepL, DeepR, Concat}
use Rattle.lazy_rec.specs.Named.{Records, is_pending}
use Rattle.lazy_rec.specs.Meaning.{means}
use Rattle.lazy_rec.specs.Numbers.{bits}
use Rattle.lazy_rec.specs.Units.{family_of, paid, if_first, units_below}
use Rattle.heap_store.specs.declared.claims.HeldClaim.{HeldClaim}
use Rattle.heap_store.specs.World.{World, recs, same_place}
use Rattle.heap_store.specs.Completion as top
use Rattle.heap_store.specs.Completion.{Made, made_tree, next_tree, is_next, is_next_middle, is_middle, is_tree, are_nodes, is_node, on_node, same_places}
use Rattle.heap_store.specs.Lawful.{IsLawful, size_in, is_of_level, level_from, level, height, is_rooted}
use Rattle.heap_store.specs.Hand.{newest_makes}
use Rattle.finger_level.specs.declared.few.Group.{Group}
use Rattle.finger_level.specs.declared.few.Group.TheVariants as group
use Rattle.finger_level.specs.declared.few.Weight.{Weight}
use Rattle.finger_level.specs.declared.level.Side.{Side}
use Rattle.finger_level.specs.declared.level.Side.TheVariants as sides
use Rattle.finger_level.specs.declared.level.Pushed.{Pushed}
use Rattle.finger_level.specs.declared.level.Pushed.TheVariants as pushes
use Rattle.finger_level.specs.Few.{group_list, node_record}
use Rattle.heap_store.proofs.Steps.{unpassed_makes}
use Rattle.heap_store.specs.Jobs.{IsUnpassed}
use Rattle.finger_level.specs.Puts.{IsElement, IsTree, push_record}
use Rattle.finger_level.specs.Pushes.{pushed_list, beside}
use Rattle.heap_store.proofs.RangeLaws.{range_from}
use Rattle.finger_level.proofs.Records.{FingerWell}
use Rattle.finger_level.proofs.Builds.{element, tree_named}

-- ---- the record of a suspended push

-- what it names is low
pub record PushLow (w : World) (t : Ref) (es : List ℕ) (o : ℕ) : Type 0 where
  pub tree : height (recs w) t.0 < o
  pub each : AllByRecursion (λ e. height (recs w) e < o) es

pub push_family : (p : ℕ) (side : Side) (t : Ref) (es : Pushed) (o : Ref) (off : ℕ) (w : Weight) → family_of p (push_record side t es o off w) ≡ (o.0, off)
push_family p sides.Left t (pushes.One e) o off w = refl
push_family p sides.Left t (pushes.Two e f) o off w = refl
push_family p sides.Right t (pushes.One e) o off w = refl
push_family p sides.Right t (pushes.Two e f) o off w = refl

pub push_size : (side : Side) (t : Ref) (es : Pushed) (o : Ref) (off : ℕ) (w : Weight) → size_in (push_record side t es o off w) ≡ Some w.size
push_size sides.Left t (pushes.One e) o off w = refl
push_size sides.Left t (pushes.Two e f) o off w = refl
push_size sides.Right t (pushes.One e) o off w = refl
push_size sides.Right t (pushes.Two e f) o off w = refl

pub push_pending : (side : Side) (t : Ref) (es : Pushed) (o : Ref) (off : ℕ) (w : Weight) → is_pending (push_record side t es o off w) ≡ true
push_pending sides.Left t (pushes.One e) o off w = refl
push_pending sides.Left t (pushes.Two e f) o off w = refl
push_pending sides.Right t (pushes.One e) o off w = refl
push_pending sides.Right t (pushes.Two e f) o off w = refl

-- a later one shows no unit
pub no_units : (o off size : ℕ) → if_first (suc off) (units_below o (bits size)) ≡ []
no_units o off size = cond-false (eqb (suc off) 0) (units_below o (bits size)) [] (ne_eqb (suc off) 0 (λ z. omega (arith, z)))

pub later_free : (rs : Records) (p : ℕ) (side : Side) (t : Ref) (es : Pushed) (o : Ref) (off : ℕ) (w : Weight) → paid rs p (push_record side t es o (suc off) w) ≡ []
later_free rs p side t es o off w = by side es
  where
    none : if_first (suc off) (units_below o.0 (bits w.size)) ≡ []
    none = no_units o.0 off w.size

    by : (side : Side) (es : Pushed) → paid rs p (push_record side t es o (suc off) w) ≡ []
    by sides.Left (pushes.One e) = none
    by sides.Left (pushes.Two e f) = none
    by sides.Right (pushes.One e) = none
    by sides.Right (pushes.Two e f) = none

pub push_own : (w : World) (d : ℕ) (side : Side) (t : Ref) (es : Pushed) (o : Ref) (off : ℕ) (weight : Weight) → AllByRecursion (λ e. level (recs w) e ≡ d) (pushed_list es) → level_from (level (recs w)) (push_record side t es o off weight) ≡ d
push_own w d sides.Left t (pushes.One e) o off weight k = k.0
push_own w d sides.Left t (pushes.Two e f) o off weight k = k.0
push_own w d sides.Right t (pushes.One e) o off weight k = k.0
push_own w d sides.Right t (pushes.Two e f) o off weight k = k.0

module _ {w : World} (law : IsLawful w) (d limit p : ℕ) (high : limit ≤ p) (low : p < 4194304) (t o : Ref) (off : ℕ) (weight : Weight) (kt : IsTree w d limit t.0) (o_low : o.0 < 4194304) (off_low : off < 32) (small : weight.size ≤ 2147483647) (key : weight.key.0 < 18446744073709551616) where
  t_fits : t.0 < 4194304
  t_fits = omega (arith, kt.under, high, low)

  tail_fits : (o.0 < 4194304) × (off < 32) × (weight.size < 2147483648) × (weight.key.0 < 18446744073709551616)
  tail_fits = (o_low, off_low, omega (arith, small), key)

  pub push_well : (side : Side) (es : Pushed) → AllByRecursion (IsElement w d limit) (pushed_list es) → weight.size ≡ length (beside side (flat_map (means (recs w)) (pushed_list es)) (means (recs w) t.0)) → PushLow w t (pushed_list es) o.0 → is_rooted (recs w) p (push_record side t es o off weight) ≡ true → FingerWell w p (push_record side t es o off weight) d
  push_well sides.Left (pushes.One e) k size l root =
      let a = element law d limit p e.0 high low k.0 in
      let f = tail_fits in
      record {
        finger = refl;
        range = range_from (push_record sides.Left t (pushes.One e) o off weight) (omega arith, (t_fits, (omega arith, (a.fits, (omega arith, (f.0, (f.1, (f.2, (f.3, tt))))))))) refl;
        names = (tree_named d limit p t.0 high kt, (a.named, tt));
        total = eq-eqb weight.size _ size;
        of_level = and_from (is_of_level (recs w) t.0 d) _ kt.of_level (and_from (is_of_level (recs w) e.0 d) true a.of_level refl);
        own = a.own;
        rooted = root;
        low = and_from (ltb (height (recs w) t.0) o.0) _ (lt-ltb _ _ l.tree) (and_from (ltb (height (recs w) e.0) o.0) true (lt-ltb _ _ l.each.0) refl);
      }
  push_well sides.Left (pushes.Two e g) k size l root =
      let a = element law d limit p e.0 high low k.0 in
      let b = element law d limit p g.0 high low k.1.0 in
      let f = tail_fits in
      record {
        finger = refl;
        range = range_from (push_record sides.Left t (pushes.Two e g) o off weight) (omega arith, (t_fits, (omega arith, (a.fits, (b.fits, (f.0, (f.1, (f.2, (f.3, tt))))))))) refl;
        names = (tree_named d limit p t.0 high kt, (a.named, (b.named, tt)));
        total = eq-eqb weight.size _ size;
        of_level = and_from (is_of_level (recs w) t.0 d) _ kt.of_level (and_from (is_of_level (recs w) e.0 d) _ a.of_level (and_from (is_of_level (recs w) g.0 d) true b.of_level refl));
        own = a.own;
        rooted = root;
        low = and_from (ltb (height (recs w) t.0) o.0) _ (lt-ltb _ _ l.tree) (and_from (ltb (height (recs w) e.0) o.0) _ (lt-ltb _ _ l.each.0) (and_from (ltb (height (recs w) g.0) o.0) true (lt-ltb _ _ l.each.1.0) refl));
      }
  push_well sides.Right (pushes.One e) k size l root =
      let a = element law d limit p e.0 high low k.0 in
      let f = tail_fits in
      record {
        finger = refl;
        range = range_from (push_record sides.Right t (pushes.One e) o off weight) (omega arith, (t_fits, (omega arith, (a.fits, (omega arith, (f.0, (f.1, (f.2, (f.3, tt))))))))) refl;
        names = (tree_named d limit p t.0 high kt, (a.named, tt));
        total = eq-eqb weight.size _ size;
        of_level = and_from (is_of_level (recs w) t.0 d) _ kt.of_level (and_from (is_of_level (recs w) e.0 d) true a.of_level refl);
        own = a.own;
        rooted = root;
        low = and_from (ltb (height (recs w) t.0) o.0) _ (lt-ltb _ _ l.tree) (and_from (ltb (height (recs w) e.0) o.0) true (lt-ltb _ _ l.each.0) refl);
      }
  push_well sides.Right (pushes.Two e g) k size l root =
      let a = element law d limit p e.0 high low k.0 in
      let b = element law d limit p g.0 high low k.1.0 in
      let f = tail_fits in
      record {
        finger = refl;
        range = range_from (push_record sides.Right t (pushes.Two e g) o off weight) (omega arith, (t_fits, (omega arith, (a.fits, (b.fits, (f.0, (f.1, (f.2, (f.3, tt))))))))) refl;
        names = (tree_named d limit p t.0 high kt, (a.named, (b.named, tt)));
        total = eq-eqb weight.size _ size;
        of_level = and_from (is_of_level (recs w) t.0 d) _ kt.of_level (and_from (is_of_level (recs w) e.0 d) _ a.of_level (and_from (is_of_level (recs w) g.0 d) true b.of_level refl));
        own = a.own;
        rooted = root;
        low = and_from (ltb (height (recs w) t.0) o.0) _ (lt-ltb _ _ l.tree) (and_from (ltb (height (recs w) e.0) o.0) _ (lt-ltb _ _ l.each.0) (and_from (ltb (height (recs w) g.0) o.0) true (lt-ltb _ _ l.each.1.0) refl));
      }

-- ---- the next suspension of a family

pub place_self : (w : World) (p : ℕ) → same_place w p p ≡ true
place_self w p = or_left (eqb p p) _ (eq-eqb p p refl)

pub places_self : (w : World) (ps : List ℕ) → same_places w ps ps ≡ true
places_self w [] = refl
places_self w (p ∷ ps) = and_from (same_place w p p) _ (place_self w p) (places_self w ps)

on_group : (test : List ℕ → Bool) (b : Group) (weight : Weight) → on_node test (node_record b weight) ≡ test (group_list b)
on_group test (group.Two x y) weight = refl
on_group test (group.Three x y z) weight = refl

pub node_is : (w : World) (b : Group) (weight : Weight) (p : ℕ) → recs w p ≡ Some (node_record b weight) → is_node w (group_list b) p ≡ true
node_is w b weight p e = rw e (on_group (same_places w (group_list b)) b weight ∙ places_self w (group_list b))

-- the trees that are suspensions
finger_pending : (w : World) (r : Rec) (m : Made) → made_tree w r ≡ Some m → is_pending r ≡ true
finger_pending w (PushL _ _ _ _ _ _ _ _) m e = refl
finger_pending w (PushR _ _ _ _ _ _ _ _) m e = refl
finger_pending w (DeepL _ _ _ _ _ _) m e = refl
finger_pending w (DeepR _ _ _ _ _ _) m e = refl
finger_pending w (Concat _ _ _ _ _ _ _) m e = refl
finger_pending w _ m e = cc

next_is : (w : World) (r s : Rec) (m : Made) → made_tree w r ≡ Some m → is_next w r s ≡ next_tree w r s
next_is w (PushL _ _ _ _ _ _ _ _) s m e = refl
next_is w (PushR _ _ _ _ _ _ _ _) s m e = refl
next_is w (DeepL _ _ _ _ _ _) s m e = refl
next_is w (DeepR _ _ _ _ _ _) s m e = refl
next_is w (Concat _ _ _ _ _ _ _) s m e = refl
next_is w _ s m e = cc

same_family : (w : World) (r : Rec) (m : Made) → made_tree w r ≡ Some m → (p : ℕ) → family_of p r ≡ family_of 0 r
same_family w (PushL _ _ _ _ _ _ _ _) m e p = refl
same_family w (PushR _ _ _ _ _ _ _ _) m e p = refl
same_family w (DeepL _ _ _ _ _ _) m e p = refl
same_family w (DeepR _ _ _ _ _ _) m e p = refl
same_family w (Concat _ _ _ _ _ _ _) m e p = refl
same_family w _ m e p = cc

-- the newest claim makes the middle of its level
pub makes_next : (w : World) (claims : List HeldClaim) (s : Ref) (origin off : ℕ) (r q : Rec) (l k : List ℕ) (m : top.Middle) → IsUnpassed s claims → recs w s.0 ≡ Some r → family_of s.0 r ≡ (origin, off) → made_tree w r ≡ Some (top.deep l m k) → is_middle w origin (suc off) m q ≡ true → newest_makes w claims origin (suc off) q ≡ true
makes_next w claims s origin off r q l k m new e fam made is =
    let zero_family = sym (same_family w r _ made s.0) ∙ fam in
    let next : is_next w r q ≡ true = next_is w r q _ made ∙ rw (made, zero_family) is in
    rw fam at (unpassed_makes w s claims new r q e (finger_pending w r _ made) next)
