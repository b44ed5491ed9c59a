-- Pending work of finger trees that waits for trees and makes one level, whichever it is: what its prepare answers, and what
-- its build makes.
use Rattle.std.proofs.Common.{◌≡◌, ⊎_elim, inl, inr, ℕ, ◌+◌, ◌<◌, ◌≤◌, eqb, ltb, refl, sym, ap, ◌∙◌, arith, subst, Bool, true, false, not, Option, Some, None, List, [], ◌∷◌, ◌++◌, length}
use Rattle.std.specs.Prelude.{option_and_then, flat_map}
use Rattle.std.specs.List.{list_all, list_any, AllByRecursion}
use Rattle.std.proofs.lemmas.Bool.{true≢false, and_parts, and_from, or_left, or_right, or_cases, le-leb}
use Rattle.std.proofs.lemmas.List.{length-append}
use Rattle.lazy_rec.specs.declared.places.Ref.{Ref}
use Rattle.lazy_rec.specs.declared.records.Rec.{Rec}
use Rattle.lazy_rec.specs.declared.records.Rec.TheVariants.{TEmpty, Single, Deep, PushL, PushR, DeepL, DeepR, Concat}
use Rattle.lazy_rec.specs.declared.records.Sort.TheVariants as sorts
use Rattle.lazy_rec.specs.Named.{sort_of, same_sort, is_pending}
use Rattle.lazy_rec.specs.Meaning.{Entry, means, cells, cells_of}
use Rattle.lazy_rec.specs.Tests.{is_some_and}
use Rattle.lazy_rec.specs.Units.{family_of, steps}
use Rattle.heap_store.specs.Span.{Span}
use Rattle.heap_store.specs.declared.jobs.Cursor.{Cursor}
use Rattle.heap_store.specs.World.{World, recs, holds, done_at, is_done, is_value}
use Rattle.heap_store.specs.Completion.{Made, top_of_record, top_at, made_tree, is_made, is_tree_made}
use Rattle.heap_store.specs.Growth.{Grows}
use Rattle.heap_store.specs.Lawful.{IsLawful, level_from, level, height, needs, keeps_each_kind, key_of}
use Rattle.heap_store.specs.Hand.{Hand, IsInHand}
use Rattle.heap_store.specs.View.{View, Quiet, MayComplete}
use Rattle.heap_store.specs.Jobs.{cursor_fits, cursor_fits_record, Filled, IsReady, IsNeed, IsBuildable, IsBuilt, IsUnpassed, takes_most, most_places}
use Rattle.heap_store.proofs.NameLaws.{IsPublished, NamesWell}
use Rattle.heap_store.proofs.GrowthLaws.{sorts_agree, at_true, done_grows, is_value_up, grows_trans, value_up}
use Rattle.heap_store.proofs.LawfulLaws.{lawful_names, done_there}
use Rattle.heap_store.proofs.MeaningLaws.{means_kept, cells_is}
use Rattle.heap_store.proofs.MadeLaws.{made_tree_up}
use Rattle.heap_store.proofs.RecordLaws.{height_kept, level_kept, keys_kept}
use Rattle.heap_store.proofs.ShowLaws.{one_value}
use Rattle.heap_store.proofs.Steps.{quiet_Filled, newest_unpassed}
use Rattle.heap_store.proofs.ReadLaws.{holds_at}
use Rattle.heap_store.proofs.ValueLaws.{Waits}
use Rattle.heap_store.proofs.HeightLaws.{height_is}
use Rattle.heap_store.proofs.Alls.{All-append}
use Rattle.finger_level.specs.declared.few.Weight.{Weight}
use Rattle.finger_level.specs.declared.level.Level.{Level}
use Rattle.finger_level.specs.declared.level.Level.TheVariants as levels
use Rattle.finger_level.specs.declared.level.Family.TheVariants.{Later}
use Rattle.finger_level.specs.Level.{items_of_made, made_of, made_places, places_of, middle_of, middle_elements, middle_trees, middle_nodes, middle_inner, middle_items, digit_list}
use Rattle.finger_level.specs.Reads.{is_tree_rec, is_tree_value, AreThere, AreUnder}
use Rattle.finger_level.specs.Keyed.{way, HasKeys, KeyedLevel, key_in}
use Rattle.finger_level.specs.Puts.{IsLevel, LevelAsk, LevelPut, Follows}
use Rattle.finger_level.specs.Pops.{AreLow}
use Rattle.finger_level.proofs.Keys.{is_of_tree}
use Rattle.finger_level.proofs.Keying.{each_kind}
use Rattle.finger_level.proofs.Found.{IsValueAt}
use Rattle.finger_level.proofs.Funded.{finger_funded}
use Rattle.finger_level.proofs.NodePuts.{all_left, all_right}
use Rattle.finger_level.proofs.Pushing.{later_up}
use Rattle.finger_level.proofs.Values.{own_level_is}
use Rattle.finger_tree.specs.Work.{is_finger_work, shown_by, kept_by, LevelTold}

-- ---- values in a later world

pub value_there : {w : World} → (p q : ℕ) → IsValueAt w p q → (r : Rec) × (recs w q ≡ Some r) × (is_tree_value r ≡ true)
value_there {w} p q k = at_true is_tree_value (recs w q) k.there

pub value_up_at : {a b : World} → IsLawful a → Grows a b → (p q : ℕ) → IsPublished (recs a) p → IsValueAt a p q → IsValueAt b p q
value_up_at {a} {b} law g p q is k =
    let t = value_there p q k in
    let there : IsPublished (recs a) q = (t.0, t.1) in
    let names = lawful_names law in
    record {
      found = ⊎_elim (λ e. inl e) (λ d. inr (d.0, done_grows g p _ d.1)) k.found;
      value = value_up a b g p t.0 (k.value ∙ t.1) ∙ sym (g.records q t.0 t.1);
      there = rw (g.records q t.0 t.1) t.2;
      items = sym (means_kept (recs a) (recs b) names g.records q there) ∙ (k.items ∙ means_kept (recs a) (recs b) names g.records p is);
      low = rw (← height_kept (recs a) (recs b) names g.records q there, ← height_kept (recs a) (recs b) names g.records p is) k.low;
      of_level = λ d h. rw (← level_kept (recs a) (recs b) names g.records q there) (k.of_level d (rw (level_kept (recs a) (recs b) names g.records p is) h));
    }

pub value_known : (w : World) (p q : ℕ) → IsValueAt w p q → is_value w p ≡ true
value_known w p q k = ⊎_elim
    (λ e. or_left (holds (recs w) p (λ r. not (is_pending r))) (is_done w p) (let t = value_there p q k in rw (← e, t.1) (and_parts (not (is_pending t.0)) (is_tree_rec t.0) t.2).0))
    (λ d. or_right (holds (recs w) p (λ r. not (is_pending r))) (is_done w p) (rw d.1 refl))
    k.found

-- the level that its value shows
pub shown_at : {w : World} (p q : ℕ) (m : Made) → IsValueAt w p q → option_and_then (top_of_record w) (recs w q) ≡ Some m → top_at w p ≡ Some m
shown_at {w} p q m k h = rw k.value h

finger_height : {w : World} → IsLawful w → (t : ℕ) (r : Rec) → recs w t ≡ Some r → is_pending r ≡ true → is_tree_rec r ≡ true → height (recs w) t ≡ (family_of t r).0
finger_height law t (PushL c i a e1 e2 o z k) e pend tree = height_is law t _ e
finger_height law t (PushR c i a e1 e2 o z k) e pend tree = height_is law t _ e
finger_height law t (DeepL a d z o i k) e pend tree = height_is law t _ e
finger_height law t (DeepR a d z o i k) e pend tree = height_is law t _ e
finger_height law t (Concat i a b d o z k) e pend tree = height_is law t _ e
finger_height law t TEmpty e pend tree = absurd (true≢false (sym pend))
finger_height law t (Single _ _ _) e pend tree = absurd (true≢false (sym pend))
finger_height law t (Deep _ _ _ _ _) e pend tree = absurd (true≢false (sym pend))
finger_height law t _ e pend tree = absurd (true≢false (sym tree))

-- ---- such work

-- what the tables say of its record: the places that it waits for, its family and its key
pub record Shape (r : Rec) (waited : List ℕ) (o : Ref) (off key : ℕ) : Type 0 where
  pub waits : is_pending r ≡ true
  pub tree : is_tree_rec r ≡ true
  pub family : (p : ℕ) → family_of p r ≡ (o.0, off)
  pub needs : (w : World) → needs w r ≡ waited
  pub told_up : (a b : World) → NamesWell (recs a) → Grows a b → (t : Made) → shown_by a r ≡ Some t → shown_by b r ≡ Some t
  pub not_fixed : takes_most r ≡ false
  pub most : most_places r ≡ 8
  pub one_step : steps r ≡ 1
  pub key_is : key_of r ≡ Some key
  pub cells : (f : ℕ → List Entry) → cells_of f r ≡ []
  pub made : (w : World) (s place : ℕ) → is_made w s r place ≡ is_tree_made w r place
  pub cursor : (a b : World) (c : Cursor) → cursor_fits_record a c r ≡ true → cursor_fits_record b c r ≡ true

-- what is said of a place that it waits for
pub record Waited (w : World) (waited : ℕ) (o : Ref) : Type 0 where
  pub sort : holds (recs w) waited is_tree_rec ≡ true
  pub low : height (recs w) waited < o.0

pub waited_there : {w : World} {waited : ℕ} {o : Ref} → Waited w waited o → IsPublished (recs w) waited
waited_there {w} {waited} k = let t = at_true is_tree_rec (recs w waited) k.sort in (t.0, t.1)

-- the level that it makes over values at q or below: of its own level and its items, of no greater height, with its keys
pub record Makes (w : World) (s : ℕ) (r : Rec) (q : ℕ) (o : Ref) (weight : Weight) (made_level : Level) : Type 0 where
  pub here : recs w s ≡ Some r
  pub shown : Made
  pub top : shown_by w r ≡ Some shown
  pub made : made_tree w r ≡ Some (made_of made_level)
  pub places : places_of made_level ≡ made_places (kept_by r shown) (made_of made_level)
  pub most : places_of made_level ≤ 8
  pub there : AreThere w made_level
  pub under : (limit : ℕ) → s < limit → q < limit → AreUnder limit made_level
  pub parts : (limit : ℕ) → s < limit → q < limit → IsLevel w (level_from (level (recs w)) r) limit (made_of made_level)
  pub low : AreLow w o.0 (made_of made_level)
  pub items : items_of_made (means (recs w)) (made_of made_level) ≡ means (recs w) s
  pub counts : weight.size ≡ length (means (recs w) s)
  pub keyed : (k : Bool) → HasKeys k w s → KeyedLevel k w made_level
  pub key : (k : Bool) → HasKeys k w s → weight.key.0 ≡ key_in k (means (recs w) s)

-- ---- what a prepare answers

-- what it tells, from a level that it makes
pub level_told : {w : World} (s q : ℕ) (r : Rec) (o : Ref) (weight : Weight) (made_level : Level) (nodes : ℕ) → Makes w s r q o weight made_level → nodes ≡ places_of made_level → LevelTold w s nodes
level_told s q r o weight made_level nodes m n = record { rec = r; here = m.here; shown = m.shown; made = made_of made_level; top = m.top; makes = m.made; count = n ∙ m.places }

pub work_ready : {w : World} {r : Rec} {waited : List ℕ} {off key : ℕ} {o : Ref} → Shape r waited o off key → (s nodes : ℕ) → recs w s ≡ Some r → list_all (is_value w) waited ≡ true → LevelTold w s nodes → nodes ≤ 8 → IsReady LevelTold w s nodes
work_ready {w} {r} {waited} shape s nodes here known told few = record {
  rec = r;
  here = here;
  needs = rw (shape.needs w) known;
  told = told;
  most = omega (arith, shape.most, few);
  exact = λ f. absurd (true≢false (sym f ∙ shape.not_fixed));
}

pub work_need : {w : World} {r : Rec} {waited : List ℕ} {off key : ℕ} {o : Ref} → IsLawful w → Shape r waited o off key → (s p : ℕ) → recs w s ≡ Some r → list_any (λ q. eqb q p) waited ≡ true → Waited w p o → Waits w p → IsNeed is_finger_work w s p
work_need {w} {r} law shape s p e need f waits =
    let t = at_true is_pending (recs w p) waits.pending in
    let tree = holds_at (recs w) p is_tree_rec t.0 f.sort t.1 in
    let h = finger_height law s r e shape.waits shape.tree in
    let fam = ap (λ (f : ℕ × ℕ). f.0) (shape.family s) in
    record {
      rec = r;
      here = e;
      need = rw (shape.needs w) need;
      other = t.0;
      there = t.1;
      work = rw t.1 (and_from (is_pending t.0) _ t.2 (and_from (is_pending t.0) (is_tree_rec t.0) t.2 tree));
      lower = omega (arith, h, fam, f.low);
      not_done = waits.undone;
      funded = λ _. finger_funded law p t.0 t.1 t.2 tree;
    }

-- it has no cells to pass, so its cursor has passed none
pub cursor_stays : {a b : World} {r : Rec} {waited : List ℕ} {off key : ℕ} {o : Ref} → Shape r waited o off key → Grows a b → (s : ℕ) → recs a s ≡ Some r → (c : Cursor) → cursor_fits a s c ≡ true → cursor_fits b s c ≡ true
cursor_stays {a} {b} {r} shape g s e c h = rw (g.records s r e) (shape.cursor a b c (rw e at h))

-- ---- what a build is given

pub record BuildFacts (v : View) (run : Span) (s : Ref) (r : Rec) (waited : List ℕ) : Type 0 where
  pub s_low : s.0 < run.next
  pub known : AllByRecursion (λ p. is_value v.seen p ≡ true) waited
  pub value_low : AllByRecursion (λ p. (q : ℕ) → IsValueAt v.seen p q → q < run.next) waited
  pub newest : IsUnpassed s v.hand.claims
  pub held : IsInHand v.hand run
  pub room : (q : ℕ) (o : Ref) (weight : Weight) (made_level : Level) → Makes v.seen s.0 r q o weight made_level → run.next + places_of made_level ≡ run.end

-- a place that was known before the run was reserved, and where its value is
record WasKnown (v : View) (run : Span) (p : ℕ) : Type 0 where
  known : is_value v.seen p ≡ true
  low : (q : ℕ) → IsValueAt v.seen p q → q < run.next

was_known : {v : View} {base : World} {run : Span} {o : Ref} → IsLawful v.seen → IsLawful base → Grows base v.seen → ((p : ℕ) (r : Rec) → recs base p ≡ Some r → p < run.next) → (p : ℕ) → is_value base p ≡ true → Waited base p o → WasKnown v run p
was_known {v} {base} {run} law base_lawful g above p known0 f =
    let tree = at_true is_tree_rec (recs base p) f.sort in
    record {
      known = is_value_up base v.seen g p known0;
      low = λ q k. ⊎_elim (λ i. (let z = above p tree.0 tree.1 in omega (arith, i, z))) (λ d. done_low tree.0 tree.1 q d.0 d.1) k.found;
    }
  where
    -- the place with which what it waited for is done was there already
    done_low : (t : Rec) → recs base p ≡ Some t → (q steps : ℕ) → done_at v.seen p ≡ Some (q, steps) → q < run.next
    done_low t er q steps d = ⊎_elim
        (λ k. absurd (not_both (is_pending t) (law.done p t (g.records p t er) _ d).pending (holds_at (recs base) p (λ r. not (is_pending r)) t k er)))
        (λ k. from (done_at base p) refl k)
        (or_cases (holds (recs base) p (λ r. not (is_pending r))) (is_done base p) known0)
      where
        not_both : (x : Bool) → x ≡ true → not x ≡ true → ⊥
        not_both true e k = true≢false (sym k)
        not_both false e k = true≢false (sym e)

        from : (o : Option (ℕ × ℕ)) → done_at base p ≡ o → is_some_and (λ d. true) o ≡ true → q < run.next
        from None e k = absurd (true≢false (sym k))
        from (Some z) e k =
            let later = done_grows g p z e in
            let same : z.0 ≡ q = ap (elim [ None ↦ 0 | Some k ↦ k.0 ]) (sym later ∙ d) in
            let is = done_there base_lawful p z e in
            let low = above z.0 is.0 is.1 in
            omega (arith, same, low)

pub build_facts : {a v : View} {run : Span} {s : Ref} {r : Rec} {waited : List ℕ} {off key : ℕ} {o : Ref} → Quiet a v → IsLawful v.seen → IsBuildable LevelTold a s run → Shape r waited o off key → recs a.seen s.0 ≡ Some r → ((w : World) → IsLawful w → recs w s.0 ≡ Some r → AllByRecursion (λ p. Waited w p o) waited) → BuildFacts v run s r waited
build_facts {a} {v} {run} {s} {r} {waited} {off} {key} {o} quiet law b shape e facts =
    let g = grows_trans b.base_grows quiet.grows in
    let here = quiet.grows.records s.0 _ e in
    let same : b.ready.rec ≡ r = one_value _ _ (sym (g.records s.0 b.ready.rec b.ready.here) ∙ here) in
    let base_here : recs b.base s.0 ≡ Some r = rw same at b.ready.here in
    let n0 : list_all (is_value b.base) (needs b.base r) ≡ true = rw same at b.ready.needs in
    let n1 : list_all (is_value b.base) waited ≡ true = rw (shape.needs b.base) at n0 in
    let all = was_all g waited n1 (facts b.base b.base_lawful base_here) in
    record {
      s_low = b.above s.0 _ base_here;
      known = all_knowns waited all;
      value_low = all_lows waited all;
      newest = rw quiet.hand (newest_unpassed s a.hand.claims b.newest);
      held = rw quiet.hand b.held;
      room = λ q o weight l m. (let z = count g here q o weight l m in omega (arith, z, b.size));
    }
  where
    was_all : Grows b.base v.seen → (ps : List ℕ) → list_all (is_value b.base) ps ≡ true → AllByRecursion (λ p. Waited b.base p o) ps → AllByRecursion (WasKnown v run) ps
    was_all g [] n f = tt
    was_all g (p ∷ ps) n f = let k = and_parts (is_value b.base p) (list_all (is_value b.base) ps) n in (was_known {o = o} law b.base_lawful g b.above p k.0 f.0, was_all g ps k.1 f.1)

    all_knowns : (ps : List ℕ) → AllByRecursion (WasKnown v run) ps → AllByRecursion (λ p. is_value v.seen p ≡ true) ps
    all_knowns [] h = tt
    all_knowns (p ∷ ps) h = (h.0.known, all_knowns ps h.1)

    all_lows : (ps : List ℕ) → AllByRecursion (WasKnown v run) ps → AllByRecursion (λ p. (q : ℕ) → IsValueAt v.seen p q → q < run.next) ps
    all_lows [] h = tt
    all_lows (p ∷ ps) h = (h.0.low, all_lows ps h.1)

    count : Grows b.base v.seen → recs v.seen s.0 ≡ Some r → (q : ℕ) (o : Ref) (weight : Weight) (l : Level) → Makes v.seen s.0 r q o weight l → b.nodes ≡ places_of l
    count g here q o weight l m =
        let t = b.ready.told in
        let rec_is : t.rec ≡ r = one_value _ _ (sym (g.records s.0 t.rec t.here) ∙ here) in
        let names = lawful_names b.base_lawful in
        let top0 : shown_by b.base r ≡ Some t.shown = rw rec_is at t.top in
        let top1 : t.shown ≡ m.shown = one_value _ _ (sym (shape.told_up b.base v.seen names g t.shown top0) ∙ m.top) in
        let made0 : made_tree b.base r ≡ Some t.made = rw rec_is at t.makes in
        let base_here : recs b.base s.0 ≡ Some r = rw rec_is at t.here in
        let made1 : t.made ≡ made_of l = one_value _ _ (sym (made_tree_up b.base v.seen names g s.0 r base_here t.made made0) ∙ m.made) in
        t.count ∙ rw (rec_is, top1, made1) (sym m.places)

-- ---- what a build asks of its level

middle_part : (xs ys zs : List ℕ) → length ys ≤ length (xs ++ ys ++ zs)
middle_part xs ys zs = let z = length-append (xs ++ ys) zs in let y = length-append xs ys in omega (arith, z, y)

pub work_ask : {v : View} {run : Span} {r : Rec} {waited : List ℕ} {off key : ℕ} {o : Ref} → Shape r waited o off key → (s : Ref) (q : ℕ) (weight : Weight) (made_level : Level) → Makes v.seen s.0 r q o weight made_level → BuildFacts v run s r waited → q < run.next → LevelAsk v run made_level (Later s o off) weight
work_ask {v} {run} {r} {waited} {off} {key} {o} shape s q weight made_level m b q_low =
    let room = b.room q o weight made_level m in
    record {
      depth = level_from (level (recs v.seen)) r;
      parts = m.parts run.next b.s_low q_low;
      there = m.there;
      under = m.under run.next b.s_low q_low;
      follows = follows made_level m;
      low = m.low.elements;
      counts = m.counts ∙ ap length (sym m.items);
      credits = omega arith;
      held = b.held;
      room = omega (arith, room);
    }
  where
    follows : (l : Level) → Makes v.seen s.0 r q o weight l → Follows v (level_from (level (recs v.seen)) r) run.next (Later s o off) l
    follows (levels.Deep l n x) m = record {
      rec = r;
      here = m.here;
      family = shape.family s.0;
      left = digit_list l;
      right = digit_list x;
      makes = m.made;
      newest = b.newest;
      own = refl;
      under = b.s_low;
      larger = rw (← m.items) (middle_part (flat_map (means (recs v.seen)) (digit_list l)) (middle_items (means (recs v.seen)) (middle_of n)) (flat_map (means (recs v.seen)) (digit_list x)));
      low = All-append _ (middle_elements (middle_of n)) (middle_trees (middle_of n)) (all_left _ (middle_elements (middle_of n)) (digit_list x) (all_right _ (digit_list l) (middle_elements (middle_of n) ++ digit_list x) m.low.elements)) m.low.trees;
      low_below = All-append _ (middle_nodes (middle_of n)) (middle_inner (middle_of n)) m.low.nodes m.low.inner;
    }
    follows levels.Empty m = tt
    follows (levels.One e) m = tt

-- ---- the value that is built

value_cells : (f : ℕ → List Entry) (r : Rec) → is_tree_value r ≡ true → cells_of f r ≡ []
value_cells f TEmpty h = refl
value_cells f (Single _ _ _) h = refl
value_cells f (Deep _ _ _ _ _) h = refl
value_cells f (PushL _ _ _ _ _ _ _ _) h = refl
value_cells f (PushR _ _ _ _ _ _ _ _) h = refl
value_cells f (DeepL _ _ _ _ _ _) h = refl
value_cells f (DeepR _ _ _ _ _ _) h = refl
value_cells f (Concat _ _ _ _ _ _ _) h = refl
value_cells f r h = absurd (true≢false (sym h))

-- the keys of the work are those of what was put
abbrev pub KeysMade : World → World → Weight → ℕ → ℕ → Type 0
KeysMade a b weight s place = HasKeys (ltb 0 weight.key.0) a s → HasKeys (ltb 0 weight.key.0) b place

-- where the level was put whole
pub level_keys : {a : World} (b : World) {s q : ℕ} {r : Rec} {o : Ref} {weight : Weight} {made_level : Level} (place : ℕ) → Makes a s r q o weight made_level → (KeyedLevel (ltb 0 weight.key.0) a made_level → weight.key.0 ≡ key_in (ltb 0 weight.key.0) (items_of_made (means (recs a)) (made_of made_level)) → HasKeys (ltb 0 weight.key.0) b place) → KeysMade a b weight s place
level_keys b {weight = weight} place m keys h = let k = ltb 0 weight.key.0 in keys (m.keyed k h) (m.key k h ∙ ap (key_in k) (sym m.items))

of_tree_rec : (r : Rec) → is_tree_rec r ≡ true → is_of_tree r ≡ true
of_tree_rec r h = or_right (same_sort (sort_of r) sorts.Element) _ (or_right (same_sort (sort_of r) sorts.Digit) _ h)

module _ {v n : View} {run z : Span} {r : Rec} {waited : List ℕ} {off : ℕ} {o : Ref} {weight : Weight} (shape : Shape r waited o off weight.key.0) (law : IsLawful v.seen) (law2 : IsLawful n.seen) (s : Ref) (q : ℕ) (made_level : Level) (place : ℕ) (m : Makes v.seen s.0 r q o weight made_level) (l : LevelPut v n run z (Later s o off) made_level place) (keys_made : KeysMade v.seen n.seen weight s.0 place) where
  work_sort : sort_of r ≡ sorts.Finger
  work_sort = sorts_agree (sort_of r) sorts.Finger shape.tree

  same_means : means (recs n.seen) place ≡ means (recs n.seen) s.0
  same_means = l.items ∙ (m.items ∙ means_kept (recs v.seen) (recs n.seen) (lawful_names law) l.filled.grows.records s.0 (r, m.here))

  -- the keys of each kind
  work_keys : keeps_each_kind (recs n.seen) s.0 place ≡ true
  work_keys =
      let g = l.filled.grows in
      let t = at_true is_tree_value (recs n.seen place) l.value in
      let tv = and_parts (not (is_pending t.0)) (is_tree_rec t.0) t.2 in
      each_kind law2 s.0 place r t.0 weight.key.0 (g.records s.0 _ m.here) t.1 (of_tree_rec r shape.tree) (of_tree_rec t.0 tv.1) shape.key_is same_means (λ h. (
      keys_made (keys_kept (recs v.seen) (recs n.seen) (lawful_names law) g.records (way (ltb 0 weight.key.0)) s.0 (r, m.here) ∙ h)))

  all_known : (ps : List ℕ) → AllByRecursion (λ p. is_value v.seen p ≡ true) ps → list_all (is_value n.seen) ps ≡ true
  all_known [] h = refl
  all_known (p ∷ ps) h = and_from (is_value n.seen p) _ (is_value_up v.seen n.seen l.filled.grows p h.0) (all_known ps h.1)

  work_done : s.0 < run.next → q < run.next → AllByRecursion (λ p. is_value v.seen p ≡ true) waited → MayComplete n.seen s.0 place 1
  work_done s_low q_low known x ex =
      let g = l.filled.grows in
      let here = g.records s.0 _ m.here in
      let same : r ≡ x = one_value _ _ (sym here ∙ ex) in
      let t = at_true is_tree_value (recs n.seen place) l.value in
      let made1 = made_tree_up v.seen n.seen (lawful_names law) g s.0 r m.here (made_of made_level) m.made in
      let high = finger_height law2 s.0 _ here shape.waits shape.tree ∙ ap (λ (f : ℕ × ℕ). f.0) (shape.family s.0) in
      let depth : level (recs n.seen) s.0 ≡ level_from (level (recs v.seen)) r = own_level_is law2 s.0 _ here ∙ later_up law law2 g s.0 _ _ m.here refl in
      rw (← same) (record {
        pending = shape.waits;
        value = rw (t.1, work_sort) t.2;
        needs = rw (shape.needs n.seen) (all_known waited known);
        made = shape.made n.seen s.0 place ∙ rw (made1, shape.family 0) l.made.0;
        steps = sym shape.one_step;
        height = le-leb (height (recs n.seen) place) (height (recs n.seen) s.0) (omega (arith, high, l.made.1));
        trees = rw work_sort refl;
        keys = rw work_sort work_keys;
        levels = rw (work_sort, depth) (l.of_level _ (m.parts run.next s_low q_low));
        means = same_means;
        cells = (cells_is (recs n.seen) (lawful_names law2) place t.0 t.1 ∙ value_cells (cells (recs n.seen)) t.0 t.2) ∙ sym (cells_is (recs n.seen) (lawful_names law2) s.0 _ here ∙ shape.cells (cells (recs n.seen)));
      })

  pub work_built : {a : View} → Quiet a v → BuildFacts v run s r waited → q < run.next → IsBuilt a n s.0 run z place 1
  work_built {a} quiet b q_low =
      let room = b.room q o weight made_level m in
      let end : z.next ≡ run.end = omega (arith, room, l.next) in
      record {
        filled = quiet_Filled quiet (subst (λ x. Filled v n run.next x) end l.filled);
        spent = end ∙ sym l.end;
        value = work_done b.s_low q_low b.known;
        small = omega arith;
        credits = (let same : v.hand.credits ≡ a.hand.credits = ap (λ (h : Hand). h.credits) quiet.hand in omega (arith, l.credits, same));
      }

-- a place that is known isn't pending and undone
pub value_done_not : {w : World} → IsLawful w → (p : ℕ) → is_value w p ≡ true → Waits w p → ⊥
value_done_not {w} law p known waits = ⊎_elim
    (λ k. let t = at_true is_pending (recs w p) waits.pending in both (is_pending t.0) t.2 (holds_at (recs w) p (λ r. not (is_pending r)) t.0 k t.1))
    (λ k. let z : is_done w p ≡ false = rw waits.undone refl in true≢false (sym k ∙ z))
    (or_cases (holds (recs w) p (λ r. not (is_pending r))) (is_done w p) known)
  where
    both : (x : Bool) → x ≡ true → not x ≡ true → ⊥
    both true e k = true≢false (sym k)
    both false e k = true≢false (sym e)
