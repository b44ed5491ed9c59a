-- Two trees that stand, and what they make with a few elements between them.
use Rattle.std.proofs.Common.{◌≡◌, ℕ, refl, sym, ap, ◌∙◌, Bool, true, false, Some, None, List, [], ◌∷◌, ◌++◌}
use Rattle.std.specs.Prelude.{flat_map}
use Rattle.std.specs.List.{AllByRecursion}
use Rattle.std.proofs.lemmas.Bool.{true≢false}
use Rattle.std.proofs.lemmas.List.{append_assoc, append-nil}
use Rattle.std.proofs.lemmas.Grind.{flat_map-append}
use Rattle.lazy_rec.specs.declared.records.Rec.{Rec}
use Rattle.lazy_rec.specs.declared.records.Rec.TheVariants.{TEmpty, Single, Deep}
use Rattle.heap_store.specs.World.{World}
use Rattle.heap_store.specs.Completion.{Made, Middle, empty, one, deep, tree, push_left, push_right, without_left, without_right, shorter_left, shorter_right, between, top_of_record, joined_trees, push_one_right, push_all_left, push_all_right}
use Rattle.heap_store.proofs.Alls.{All-append}
use Rattle.heap_store.proofs.ShowLaws.{one_value}
use Rattle.finger_level.specs.Level.{elements_in, trees_in, nodes_in, inner_in, items_of_made}
use Rattle.finger_level.proofs.LevelPushes.{open_left, open_right, elements_left, elements_right, trees_left, trees_right, items_left, items_right, bare_left, bare_right, open_after_left, open_after_right}
use Rattle.finger_level.proofs.NodePuts.{all_left, all_right}
use Rattle.finger_level.proofs.Concats.{grouped_all}

-- ---- elements pushed onto a level

record OntoLeft (es : List ℕ) (t : Made) : Type 1 where
  elements : (P : ℕ → Type 0) → AllByRecursion P es → AllByRecursion P (elements_in t) → AllByRecursion P (elements_in (push_all_left es t))
  trees : trees_in (push_all_left es t) ≡ trees_in t
  items : (f : ℕ → List ℕ) → items_of_made f (push_all_left es t) ≡ flat_map f es ++ items_of_made f t
  takes : open_left (push_all_left es t) ≡ true

onto_left : (es : List ℕ) (t : Made) → open_left t ≡ true → OntoLeft es t
onto_left [] t o = record { elements = λ P h k. k; trees = refl; items = λ f. refl; takes = o }
onto_left (e ∷ es) t o =
    let x = onto_left es t o in
    record {
      elements = λ P h k. rw (elements_left e (push_all_left es t) x.takes) (h.0, x.elements P h.1 k);
      trees = trees_left e (push_all_left es t) x.takes ∙ x.trees;
      items = λ f. items_left f e (push_all_left es t) x.takes ∙ (ap (λ xs. f e ++ xs) (x.items f) ∙ sym (append_assoc (f e) (flat_map f es) (items_of_made f t)));
      takes = open_after_left e (push_all_left es t) x.takes;
    }

record OntoRight (t : Made) (es : List ℕ) : Type 1 where
  elements : (P : ℕ → Type 0) → AllByRecursion P (elements_in t) → AllByRecursion P es → AllByRecursion P (elements_in (push_all_right t es))
  trees : trees_in (push_all_right t es) ≡ trees_in t
  items : (f : ℕ → List ℕ) → items_of_made f (push_all_right t es) ≡ items_of_made f t ++ flat_map f es
  takes : open_right (push_all_right t es) ≡ true

onto_right : (t : Made) (es : List ℕ) → open_right t ≡ true → OntoRight t es
onto_right t [] o = record { elements = λ P h k. h; trees = refl; items = λ f. sym (append-nil (items_of_made f t)); takes = o }
onto_right t (e ∷ es) o =
    let x = onto_right (push_one_right t e) es (open_after_right t e o) in
    record {
      elements = λ P h k. (let y : AllByRecursion P (elements_in (push_one_right t e)) = rw (elements_right t e o) (All-append P (elements_in t) (e ∷ []) h (k.0, tt)) in x.elements P y k.1);
      trees = x.trees ∙ trees_right t e o;
      items = λ f. x.items f ∙ (ap (λ xs. xs ++ flat_map f es) (items_right f t e o) ∙ append_assoc (items_of_made f t) (f e) (flat_map f es));
      takes = x.takes;
    }

-- ---- both trees

-- the level of a value: its middle is a tree
abbrev pub is_shown_middle : Middle → Bool
is_shown_middle (tree (Some t)) = true
is_shown_middle _ = false

abbrev pub is_shown : Made → Bool
is_shown (deep l m r) = is_shown_middle m
is_shown _ = true

pub top_shown : (w : World) (r : Rec) (t : Made) → top_of_record w r ≡ Some t → is_shown t ≡ true
top_shown w TEmpty t h = let same : empty ≡ t = one_value _ _ h in rw (← same) refl
top_shown w (Single e _ _) t h = let same : one e.0 ≡ t = one_value _ _ h in rw (← same) refl
top_shown w (Deep l m r _ _) t h = let same = one_value _ _ h in rw (← same) refl
top_shown w _ t h = cc

shown_open : (t : Made) → is_shown t ≡ true → (open_left t ≡ true) × (open_right t ≡ true)
shown_open empty h = (refl, refl)
shown_open (one e) h = (refl, refl)
shown_open (deep l (tree t) r) h = (refl, refl)
shown_open (deep l (push_left _ _) r) h = absurd (true≢false (sym h))
shown_open (deep l (push_right _ _) r) h = absurd (true≢false (sym h))
shown_open (deep l (without_left _ _) r) h = absurd (true≢false (sym h))
shown_open (deep l (without_right _ _) r) h = absurd (true≢false (sym h))
shown_open (deep l (shorter_left _ _ _) r) h = absurd (true≢false (sym h))
shown_open (deep l (shorter_right _ _ _) r) h = absurd (true≢false (sym h))
shown_open (deep l (between _ _ _) r) h = absurd (true≢false (sym h))

-- what is made has the elements and the items of both and of those between
pub record Joins (s : Made) (es : List ℕ) (t : Made) (made : Made) : Type 1 where
  pub elements : (P : ℕ → Type 0) → AllByRecursion P (elements_in s) → AllByRecursion P es → AllByRecursion P (elements_in t) → AllByRecursion P (elements_in made)
  pub trees : (P : ℕ → Type 0) → AllByRecursion P (trees_in s) → AllByRecursion P (trees_in t) → AllByRecursion P (trees_in made)
  pub bare : (nodes_in made ≡ []) × (inner_in made ≡ [])
  pub items : (f : ℕ → List ℕ) → items_of_made f made ≡ items_of_made f s ++ flat_map f es ++ items_of_made f t

deep_items : (l x r es l2 y r2 : List ℕ) → l ++ (x ++ (r ++ es ++ l2) ++ y) ++ r2 ≡ (l ++ (x ++ []) ++ r) ++ es ++ (l2 ++ (y ++ []) ++ r2)
deep_items l x r es l2 y r2 = simp (append_assoc, append-nil) refl

right_joins : (s : Made) (es : List ℕ) → is_shown s ≡ true → Joins s es empty (push_all_right s es)
right_joins s es h =
    let x = onto_right s es (shown_open s h).1 in
    record {
      elements = λ P a b c. x.elements P a b;
      trees = λ P a b. rw x.trees a;
      bare = bare_right (push_all_right s es) x.takes;
      items = λ f. x.items f ∙ sym (append-nil (items_of_made f s ++ flat_map f es));
    }

left_joins : (a : ℕ) (es : List ℕ) (t : Made) → is_shown t ≡ true → Joins (one a) es t (push_all_left (a ∷ es) t)
left_joins a es t h =
    let x = onto_left (a ∷ es) t (shown_open t h).0 in
    record {
      elements = λ P k b c. x.elements P (k.0, b) c;
      trees = λ P k b. rw x.trees b;
      bare = bare_left (push_all_left (a ∷ es) t) x.takes;
      items = x.items;
    }

pub joins : (s : Made) (es : List ℕ) (t : Made) → is_shown s ≡ true → is_shown t ≡ true → Joins s es t (joined_trees s es t)
joins empty es t hs ht =
    let x = onto_left es t (shown_open t ht).0 in
    record {
      elements = λ P a b c. x.elements P b c;
      trees = λ P a b. rw x.trees b;
      bare = bare_left (push_all_left es t) x.takes;
      items = x.items;
    }
joins (one a) es empty hs ht = right_joins (one a) es hs
joins (one a) es (one b) hs ht = left_joins a es (one b) ht
joins (one a) es (deep l m r) hs ht = left_joins a es (deep l m r) ht
joins (deep l m r) es empty hs ht = right_joins (deep l m r) es hs
joins (deep l m r) es (one b) hs ht =
    let x = onto_right (deep l m r) (es ++ b ∷ []) (shown_open (deep l m r) hs).1 in
    record {
      elements = λ P h k c. x.elements P h (All-append P es (b ∷ []) k c);
      trees = λ P h k. rw x.trees h;
      bare = bare_right (push_all_right (deep l m r) (es ++ b ∷ [])) x.takes;
      items = λ f. x.items f ∙ (ap (λ xs. items_of_made f (deep l m r) ++ xs) (flat_map-append f es (b ∷ []) ∙ ap (λ xs. flat_map f es ++ xs) (append-nil (f b))) ∙ sym (append_assoc (items_of_made f (deep l m r)) (flat_map f es) (f b)));
    }
joins (deep l (tree (Some x)) r) es (deep l2 (tree (Some y)) r2) hs ht =
    let all = grouped_all (r ++ es ++ l2) in
    record {
      elements = λ P a b c. rw all (All-append P l ((r ++ es ++ l2) ++ r2) (all_left P l r a) (All-append P (r ++ es ++ l2) r2 (All-append P (r ++ es) l2 (All-append P r es (all_right P l r a) b) (all_left P l2 r2 c)) (all_right P l2 r2 c)));
      trees = λ P a b. (a.0, (b.0, tt));
      bare = (refl, refl);
      items = λ f. ap (λ xs. flat_map f l ++ (f x ++ xs ++ f y) ++ flat_map f r2) (ap (flat_map f) all ∙ (flat_map-append f (r ++ es) l2 ∙ ap (λ xs. xs ++ flat_map f l2) (flat_map-append f r es))) ∙ deep_items (flat_map f l) (f x) (flat_map f r) (flat_map f es) (flat_map f l2) (f y) (flat_map f r2);
    }
joins (deep l (tree None) r) es (deep l2 m2 r2) hs ht = absurd (true≢false (sym hs))
joins (deep l (push_left _ _) r) es (deep l2 m2 r2) hs ht = absurd (true≢false (sym hs))
joins (deep l (push_right _ _) r) es (deep l2 m2 r2) hs ht = absurd (true≢false (sym hs))
joins (deep l (without_left _ _) r) es (deep l2 m2 r2) hs ht = absurd (true≢false (sym hs))
joins (deep l (without_right _ _) r) es (deep l2 m2 r2) hs ht = absurd (true≢false (sym hs))
joins (deep l (shorter_left _ _ _) r) es (deep l2 m2 r2) hs ht = absurd (true≢false (sym hs))
joins (deep l (shorter_right _ _ _) r) es (deep l2 m2 r2) hs ht = absurd (true≢false (sym hs))
joins (deep l (between _ _ _) r) es (deep l2 m2 r2) hs ht = absurd (true≢false (sym hs))
joins (deep l (tree (Some x)) r) es (deep l2 (tree None) r2) hs ht = absurd (true≢false (sym ht))
joins (deep l (tree (Some x)) r) es (deep l2 (push_left _ _) r2) hs ht = absurd (true≢false (sym ht))
joins (deep l (tree (Some x)) r) es (deep l2 (push_right _ _) r2) hs ht = absurd (true≢false (sym ht))
joins (deep l (tree (Some x)) r) es (deep l2 (without_left _ _) r2) hs ht = absurd (true≢false (sym ht))
joins (deep l (tree (Some x)) r) es (deep l2 (without_right _ _) r2) hs ht = absurd (true≢false (sym ht))
joins (deep l (tree (Some x)) r) es (deep l2 (shorter_left _ _ _) r2) hs ht = absurd (true≢false (sym ht))
joins (deep l (tree (Some x)) r) es (deep l2 (shorter_right _ _ _) r2) hs ht = absurd (true≢false (sym ht))
joins (deep l (tree (Some x)) r) es (deep l2 (between _ _ _) r2) hs ht = absurd (true≢false (sym ht))
