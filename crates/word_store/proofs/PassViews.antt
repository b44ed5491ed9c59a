-- What the steps of a pass come to, as views.
use Rattle.std.proofs.Common.{◌≡◌, ℕ, ◌+◌, ◌<◌, ◌≤◌, List, [], ◌∷◌, length, refl, sym, ap, ap₂, ◌∙◌, arith, subst, true, cond, eqb, Some, None, inl, inr, ◌⊎◌, ⊎_elim}
use Rattle.std.specs.Prelude.{slice_index, slice_set}
use Rattle.std.proofs.lemmas.List.{get_or-set_same, get_or-set_other, length-set, append-nil}
use mathlib.Core.Option.{none}
use Rattle.atomic_table.specs.Table.{step, Step}
use Rattle.lazy_rec.specs.declared.records.Rec.{Rec}
use Rattle.lazy_rec.specs.Packed.{words_of}
use Rattle.heap_store.specs.declared.claims.Full.{Full}
use Rattle.heap_store.specs.Span.{Span}
use Rattle.heap_store.specs.Hand.{Hand, contains, hand_reserved, hand_refused}
use Rattle.heap_store.specs.View.{View, Refusals, About, Quiet, Refused, Reserved, Put, Fits, risen}
use Rattle.heap_store.proofs.GrowthLaws.{grows_refl, grows_trans}
use Rattle.heap_store.proofs.Steps.{words_trans, alone_of}
use Rattle.word_world.specs.Words.{record_word_at, places_of}
use Rattle.word_world.proofs.Worlds.{count_world}
use Rattle.word_world.proofs.WordSteps.{published_world}
use Rattle.word_store.specs.declared.sight.Sight.{Sight}
use Rattle.word_store.specs.declared.pass.Pass.{Pass}
use Rattle.word_store.specs.Rule.{seen_by}
use Rattle.word_store.specs.Views.{view_with}
use Rattle.word_store.specs.Plays.{Sat, Goes, Looked, Noted, Drew, Filled, Published, sight_after}
use Rattle.word_store.specs.Passes.{view_of, Stays, slots_of}
use Rattle.word_store.proofs.Views.{alone_is}
use Rattle.word_store.proofs.PassSteps.{one_of, filled_world}
use Rattle.word_store.proofs.PassReads.{published_within}

-- ---- what never changes

pub yes : (v : Sight) (a b : ℕ) → eqb v.callers 1 ≡ true → cond (eqb v.callers 1) a b ≡ a
yes v a b e = ap (λ z. cond {A = ℕ} z a b) e

pub no_alone : {X : Type 0} (v : Sight) → eqb v.callers 1 ≡ true → (v.callers ≡ 1 → ⊥) → X
no_alone v e never = absurd (never (alone_is v e))

-- a pass, and one after a step of its seat and with numbers of its own
module _ (p : Pass) (after : List ℕ) (n : Sat) (g : Goes after p.seat.me n) where
  -- the views with these numbers
  abbrev pub view_at : ℕ → ℕ → Full → ℕ → ℕ → View
  view_at c r l d m = view_with n.0 c r l d m

  pub same_callers : n.0.callers ≡ p.seat.me.0.callers
  same_callers = ap (λ (v : Sight). v.callers) g.is

  pub same_about : (c r : ℕ) (l : Full) (d m : ℕ) → c ≡ p.caller → (view_at c r l d m).about ≡ (view_of p).about
  same_about c r l d m e = ap₂ (λ v c. (view_with v c r l d m).about) g.is e

  pub exact : eqb p.seat.me.0.callers 1 ≡ true → n.0.words ≡ after
  exact e = g.exact (one_of p ∙ sym (alone_is p.seat.me.0 e))

  still : eqb p.seat.me.0.callers 1 ≡ true → eqb n.0.callers 1 ≡ true
  still e = ap (λ z. eqb z 1) same_callers ∙ e

  -- the numbers, where there is no other caller
  pub drawn_is : (c r : ℕ) (l : Full) (d m : ℕ) → eqb p.seat.me.0.callers 1 ≡ true → (view_at c r l d m).drawn ≡ slice_index after 0
  drawn_is c r l d m e = yes n.0 (slice_index n.0.words 0) d (still e) ∙ ap (λ (ws : List ℕ). slice_index ws 0) (exact e)

  pub named_is : (c r : ℕ) (l : Full) (d m : ℕ) → eqb p.seat.me.0.callers 1 ≡ true → (view_at c r l d m).named ≡ slice_index after 1
  named_is c r l d m e = yes n.0 (slice_index n.0.words 1) m (still e) ∙ ap (λ (ws : List ℕ). slice_index ws 1) (exact e)

  pub seen_is : eqb p.seat.me.0.callers 1 ≡ true → seen_by n.0 ≡ seen_by (record p.seat.me.0 { words = after })
  seen_is e = ap seen_by g.is ∙ ap (λ ws. seen_by (record p.seat.me.0 { words = ws })) (exact e)

pub own_drawn : (p : Pass) → eqb p.seat.me.0.callers 1 ≡ true → (view_of p).drawn ≡ slice_index p.seat.me.0.words 0
own_drawn p e = yes p.seat.me.0 (slice_index p.seat.me.0.words 0) p.drawn e

pub own_named : (p : Pass) → eqb p.seat.me.0.callers 1 ≡ true → (view_of p).named ≡ slice_index p.seat.me.0.words 1
own_named p e = yes p.seat.me.0 (slice_index p.seat.me.0.words 1) p.named e

-- ---- loads

pub looked_quiet : (p q : Pass) (st : Step ℕ) (r : ℕ) → Looked st p.seat.me r q.seat.me → Stays p q → Quiet (view_of p) (view_of q)
looked_quiet p q st r k s = record {
  grows = k.goes.grows;
  words = k.kept;
  hand = k.hand;
  refusals = ap₂ (λ (n : ℕ) (f : Full). record { count = n; last = f }) s.refused s.last;
  about = same_about p p.seat.me.0.words q.seat.me k.goes q.caller q.refused q.last q.drawn q.named s.caller;
  alone = λ e. ap (λ v. view_with v q.caller q.refused q.last q.drawn q.named) k.goes.is ∙ same (exact p p.seat.me.0.words q.seat.me k.goes e) k.hand s.caller s.refused s.last s.drawn s.named;
}
  where
    same : {ws : List ℕ} {h : Hand} {c r : ℕ} {l : Full} {d m : ℕ} → ws ≡ p.seat.me.0.words → h ≡ p.seat.me.0.hand → c ≡ p.caller → r ≡ p.refused → l ≡ p.last → d ≡ p.drawn → m ≡ p.named
        → view_with (sight_after p.seat.me.0 ws h q.seat.me.0.wasted) c r l d m ≡ view_of p
    same e0 e1 e2 e3 e4 e5 e6 = rw (e0, e1, e2, e3, e4, e5, e6) refl

-- the numbers that were read last are no part of what a quiet call keeps
pub counts_quiet : (p q : Pass) (drawn named : ℕ) → Quiet (view_of p) (view_of q) → Quiet (view_of p) (view_with q.seat.me.0 q.caller q.refused q.last drawn named)
counts_quiet p q drawn named k = record {
  grows = k.grows;
  words = k.words;
  hand = k.hand;
  refusals = k.refusals;
  about = k.about;
  alone = λ e. (let f = alone_of (view_of p) (view_of q) k.about e in let v = q.seat.me.0 in
      ap₂ (λ d m. record (view_of q) { drawn = d; named = m }) (yes v (slice_index v.words 0) drawn f ∙ sym (yes v (slice_index v.words 0) q.drawn f)) (yes v (slice_index v.words 1) named f ∙ sym (yes v (slice_index v.words 1) q.named f)) ∙ k.alone e);
}

-- ---- refusals

pub noted_refused : (p q : Pass) (st : Step ℕ) (r k : ℕ) (full : Full) → Noted st p.seat.me r q.seat.me → Stays p q → full.wanted ≡ k → 1 ≤ k → p.layout.nodes < full.drawn + k → full.drawn ≤ 260000000 → (eqb p.seat.me.0.callers 1 ≡ true → full.drawn ≡ slice_index p.seat.me.0.words 0)
    → Refused (view_of p) (view_with q.seat.me.0 q.caller (risen p.refused) full q.drawn q.named) k full
noted_refused p q st r k full n s wanted asked over low now = record {
  grows = n.goes.grows;
  words = n.kept;
  hand = n.hand ∙ ap (λ z. record (hand_refused p.seat.me.0.hand) { vain = z }) (sym (ap (λ (h : Hand). h.vain) n.hand));
  vain = inl (ap (λ (h : Hand). h.vain) n.hand);
  refusals = refl;
  about = same_about p p.seat.me.0.words q.seat.me n.goes q.caller (risen p.refused) full q.drawn q.named s.caller;
  wanted = wanted;
  asked = asked;
  no_room = omega (arith, over, p.sized.0);
  low = low;
  alone = λ e. (
    seen_is p p.seat.me.0.words q.seat.me n.goes e,
    drawn_is p p.seat.me.0.words q.seat.me n.goes q.caller (risen p.refused) full q.drawn q.named e ∙ sym (own_drawn p e),
    named_is p p.seat.me.0.words q.seat.me n.goes q.caller (risen p.refused) full q.drawn q.named e ∙ sym (own_named p e),
    now e ∙ sym (own_drawn p e),
    n.hand,
  );
}

-- a refusal after a load
pub quiet_refused : (a b c : View) (k : ℕ) (full : Full) → Quiet a b → Refused b c k full → Refused a c k full
quiet_refused a b c k full q f = record {
  grows = grows_trans q.grows f.grows;
  words = words_trans a.hand b.hand a.seen b.seen c.seen (ap (λ (h : Hand). h.names) q.hand) q.words f.words;
  hand = f.hand ∙ ap (λ (h : Hand). record (hand_refused h) { vain = c.hand.vain }) q.hand;
  vain = subst (λ (h : Hand). (c.hand.vain ≡ h.vain) ⊎ ((h.vain ≡ None) × (c.hand.vain ≡ Some full))) q.hand f.vain;
  refusals = f.refusals ∙ ap (λ (x : Refusals). record { count = risen x.count; last = full }) q.refusals;
  about = f.about ∙ q.about;
  wanted = f.wanted;
  asked = f.asked;
  no_room = subst (λ (x : About). x.capacity < full.drawn + k) q.about f.no_room;
  low = f.low;
  alone = λ e. subst (λ (v : View). (c.seen ≡ v.seen) × (c.drawn ≡ v.drawn) × (c.named ≡ v.named) × (full.drawn ≡ v.drawn) × (c.hand ≡ hand_refused v.hand)) (q.alone e) (f.alone (alone_of a b q.about e));
}

-- a refusal after an add in vain, which a pass that is alone never makes
pub vain_refused : (q r : Pass) (c : View) (k : ℕ) (found : ℕ) (full : Full) → Drew (step (slots_of q) 0 k 0 none) q.seat.me found r.seat.me → Stays q r → q.layout.nodes < found + k → slice_index q.seat.me.0.words 0 + k ≤ q.layout.nodes → full ≡ record { drawn = found; wanted = k }
    → Refused (view_of r) c k full → Refused (view_of q) c k full
vain_refused q r c k found full d s over room is f =
    let after : List ℕ = slice_set q.seat.me.0.words 0 (found + k) in
    let vain = d.none (omega (arith, over, q.sized.0)) in
    let own : c.hand.vain ≡ Some full = ⊎_elim (λ same. same ∙ (ap (λ (h : Hand). h.vain) vain.1 ∙ ap Some (sym is))) (λ new. new.1) f.vain in
    record {
      grows = grows_trans d.goes.grows f.grows;
      words = words_trans q.seat.me.0.hand r.seat.me.0.hand (view_of q).seen (view_of r).seen c.seen (ap (λ (h : Hand). h.names) vain.1) d.kept f.words;
      hand = f.hand ∙ ap (λ (h : Hand). record (hand_refused h) { vain = c.hand.vain }) vain.1;
      vain = inr (vain.0, own);
      refusals = f.refusals ∙ ap₂ (λ (n : ℕ) (x : Full). record { count = risen n; last = full }) s.refused s.last;
      about = f.about ∙ same_about q after r.seat.me d.goes r.caller r.refused r.last r.drawn r.named s.caller;
      wanted = f.wanted;
      asked = f.asked;
      no_room = subst (λ (x : About). x.capacity < full.drawn + k) (same_about q after r.seat.me d.goes r.caller r.refused r.last r.drawn r.named s.caller) f.no_room;
      low = f.low;
      alone = λ e. absurd (let b = d.before (one_of q ∙ sym (alone_is q.seat.me.0 e)) in omega (arith, b, over, room));
    }

-- a pass that is alone adds nothing in vain
pub never_vain : (q r : Pass) (k found : ℕ) → Drew (step (slots_of q) 0 k 0 none) q.seat.me found r.seat.me → r.layout.nodes ≡ q.layout.nodes → r.layout.nodes < found + k → slice_index q.seat.me.0.words 0 + k ≤ q.layout.nodes → eqb r.seat.me.0.callers 1 ≡ true → ⊥
never_vain q r k found d same over room e =
    let b = d.before (one_of q ∙ sym (sym (ap (λ (v : Sight). v.callers) d.goes.is) ∙ alone_is r.seat.me.0 e)) in omega (arith, b, over, room, same)

-- ---- reserves

pub drawn_reserved : (q r : Pass) (k found : ℕ) (run : Span) → Drew (step (slots_of q) 0 k 0 none) q.seat.me found r.seat.me → Stays q r → found + k ≤ q.layout.nodes → run.next ≡ 5 + found → run.end ≡ 5 + found + k → Reserved (view_of q) (view_of r) k run
drawn_reserved q r k found run d s room next end =
    let after : List ℕ = slice_set q.seat.me.0.words 0 (found + k) in
    let room' : found + k ≤ q.seat.me.0.nodes = omega (arith, room, q.sized.0) in
    record {
      grows = d.goes.grows;
      words = d.kept;
      size = omega (arith, next, end);
      hand = d.some room' ∙ ap (λ n. hand_reserved q.seat.me.0.hand n k) (sym next);
      refusals = ap₂ (λ (n : ℕ) (f : Full). record { count = n; last = f }) s.refused s.last;
      about = same_about q after r.seat.me d.goes r.caller r.refused r.last r.drawn r.named s.caller;
      unheld = λ p had. (let l = d.unheld room' p had in omega (arith, l, next));
      fresh = λ p x e. (let l = d.fresh room' p x e in omega (arith, l, next));
      alone = λ e. (
        seen_is q after r.seat.me d.goes e ∙ count_world q.seat.me.0.nodes q.seat.me.0.rows q.seat.me.0.words 0 (found + k) (omega arith),
        (let b = d.before (one_of q ∙ sym (alone_is q.seat.me.0 e)) in omega (arith, drawn_is q after r.seat.me d.goes r.caller r.refused r.last r.drawn r.named e, own_drawn q e, b, get_or-set_same q.seat.me.0.words 0 (found + k) 0 (omega (arith, q.sound.wide)))),
        named_is q after r.seat.me d.goes r.caller r.refused r.last r.drawn r.named e ∙ (get_or-set_other q.seat.me.0.words 0 1 (found + k) 0 (λ z. omega (arith, z)) ∙ sym (own_named q e)),
      );
    }

pub quiet_reserved : (a b c : View) (k : ℕ) (run : Span) → Quiet a b → Reserved b c k run → Reserved a c k run
quiet_reserved a b c k run q f = record {
  grows = grows_trans q.grows f.grows;
  words = words_trans a.hand b.hand a.seen b.seen c.seen (ap (λ (h : Hand). h.names) q.hand) q.words f.words;
  size = f.size;
  hand = f.hand ∙ ap (λ h. hand_reserved h run.next k) q.hand;
  refusals = f.refusals ∙ q.refusals;
  about = f.about ∙ q.about;
  unheld = λ p had. f.unheld p (ap (λ (h : Hand). contains h.reserved p) q.hand ∙ had);
  fresh = f.fresh;
  alone = λ e. subst (λ (v : View). (c.seen ≡ v.seen) × (c.drawn ≡ v.drawn + k) × (c.named ≡ v.named)) (q.alone e) (f.alone (alone_of a b q.about e));
}

-- nothing is reserved, behind all places of the store
pub none_reserved : (p : Pass) (k : ℕ) (run : Span) → k ≡ 0 → run.next ≡ p.layout.nodes + 5 → run.end ≡ p.layout.nodes + 5 → Reserved (view_of p) (view_of p) k run
none_reserved p k run zero_is next end = record {
  grows = grows_refl (view_of p).seen;
  words = λ i m. refl;
  size = omega (arith, next, end, zero_is);
  hand = rw zero_is (no_more p.seat.me.0.hand);
  refusals = refl;
  about = refl;
  unheld = λ c had. (let l = (p.sound.reserved_low c had).1 in omega (arith, next, l, p.sized.0));
  fresh = λ c y e. (let l = published_within p.seat.me.0 c y e in omega (arith, next, l, p.sized.0));
  alone = λ e. (refl, omega (arith, zero_is), refl);
}
  where
    no_more : (h : Hand) → h ≡ hand_reserved h run.next 0
    no_more h = ap₂ (λ xs n. record h { reserved = xs; allowance = n }) (sym (append-nil h.reserved)) (omega arith)

-- ---- puts

pub published_put : (p q : Pass) (place : ℕ) (x : ℕ) (r : Rec) → Published (step (slots_of p) (record_word_at place 0) x 0 none) p.seat.me x q.seat.me → Stays p q → contains p.seat.me.0.hand.reserved place ≡ true → Fits (view_of p) place r
    → ◌≡◌ {A = List ℕ} (x ∷ slice_index p.seat.me.0.words (record_word_at place 1) ∷ slice_index p.seat.me.0.words (record_word_at place 2) ∷ slice_index p.seat.me.0.words (record_word_at place 3) ∷ []) (words_of r) → Put (view_of p) (view_of q) place r
published_put p q place x r k s held fits words =
    let after : List ℕ = slice_set p.seat.me.0.words (record_word_at place 0) x in
    let t = k.hand place r refl words fits.laws.range in
    record {
      grows = k.goes.grows;
      words = k.kept;
      here = t.1;
      hand = t.0;
      refusals = ap₂ (λ (n : ℕ) (f : Full). record { count = n; last = f }) s.refused s.last;
      about = same_about p after q.seat.me k.goes q.caller q.refused q.last q.drawn q.named s.caller;
      alone = λ e. (
        seen_is p after q.seat.me k.goes e ∙ published_world p.seat.me.0.nodes p.seat.me.0.rows p.seat.me.0.plan p.seat.me.0.words p.sound.wide p.sound.well place x r (p.sound.reserved_low place held).1 (p.sound.hand.reserved place held) words fits.laws.range,
        drawn_is p after q.seat.me k.goes q.caller q.refused q.last q.drawn q.named e ∙ (get_or-set_other p.seat.me.0.words (record_word_at place 0) 0 x 0 (λ z. omega (arith, z)) ∙ sym (own_drawn p e)),
        named_is p after q.seat.me k.goes q.caller q.refused q.last q.drawn q.named e ∙ (get_or-set_other p.seat.me.0.words (record_word_at place 0) 1 x 0 (λ z. omega (arith, z)) ∙ sym (own_named p e)),
      );
    }

-- a filled word changes no view
pub filled_view : (p q : Pass) (place j x : ℕ) → contains p.seat.me.0.hand.reserved place ≡ true → 0 < j → j < 4 → Filled (step (slots_of p) (record_word_at place j) x 0 none) p.seat.me x q.seat.me → Stays p q → view_of q ≡ view_of p
filled_view p q place j x held low high k s =
    ap (λ v. view_with v q.caller q.refused q.last q.drawn q.named) k.is
    ∙ same (filled_world p place j (record_word_at place j) x held low high refl (record p.seat.me.0 { words = slice_set p.seat.me.0.words (record_word_at place j) x }) refl)
    (get_or-set_other p.seat.me.0.words (record_word_at place j) 0 x 0 (λ z. omega (arith, z))) (get_or-set_other p.seat.me.0.words (record_word_at place j) 1 x 0 (λ z. omega (arith, z))) s.caller s.refused s.last s.drawn s.named
  where
    same : {c r : ℕ} {l : Full} {d m : ℕ} → seen_by (record p.seat.me.0 { words = slice_set p.seat.me.0.words (record_word_at place j) x }) ≡ seen_by p.seat.me.0 → slice_index (slice_set p.seat.me.0.words (record_word_at place j) x) 0 ≡ slice_index p.seat.me.0.words 0 → slice_index (slice_set p.seat.me.0.words (record_word_at place j) x) 1 ≡ slice_index p.seat.me.0.words 1
        → c ≡ p.caller → r ≡ p.refused → l ≡ p.last → d ≡ p.drawn → m ≡ p.named → view_with (record p.seat.me.0 { words = slice_set p.seat.me.0.words (record_word_at place j) x }) c r l d m ≡ view_of p
    same e0 e1 e2 e3 e4 e5 e6 e7 = rw (e0, e1, e2, e3, e4, e5, e6, e7) refl

-- the words of a place whose last three are filled
module _ (p a b d : Pass) (place x y z : ℕ) (held : contains p.seat.me.0.hand.reserved place ≡ true)
    (fa : Filled (step (slots_of p) (record_word_at place 1) x 0 none) p.seat.me x a.seat.me) (fb : Filled (step (slots_of a) (record_word_at place 2) y 0 none) a.seat.me y b.seat.me) (fd : Filled (step (slots_of b) (record_word_at place 3) z 0 none) b.seat.me z d.seat.me) where
  words_a : a.seat.me.0.words ≡ slice_set p.seat.me.0.words (record_word_at place 1) x
  words_a = ap (λ (v : Sight). v.words) fa.is

  words_b : b.seat.me.0.words ≡ slice_set a.seat.me.0.words (record_word_at place 2) y
  words_b = ap (λ (v : Sight). v.words) fb.is

  words_d : d.seat.me.0.words ≡ slice_set b.seat.me.0.words (record_word_at place 3) z
  words_d = ap (λ (v : Sight). v.words) fd.is

  inside : place < places_of p.seat.me.0.nodes
  inside = (p.sound.reserved_low place held).1

  long_a : length a.seat.me.0.words ≡ length p.seat.me.0.words
  long_a = ap length words_a ∙ length-set p.seat.me.0.words (record_word_at place 1) x

  long_b : length b.seat.me.0.words ≡ length p.seat.me.0.words
  long_b = ap length words_b ∙ (length-set a.seat.me.0.words (record_word_at place 2) y ∙ long_a)

  at_a : slice_index a.seat.me.0.words (record_word_at place 1) ≡ x
  at_a = ap (λ (l : List ℕ). slice_index l (record_word_at place 1)) words_a ∙ get_or-set_same p.seat.me.0.words (record_word_at place 1) x 0 (omega (arith, p.sound.wide, inside))

  at_b : slice_index b.seat.me.0.words (record_word_at place 2) ≡ y
  at_b = ap (λ (l : List ℕ). slice_index l (record_word_at place 2)) words_b ∙ get_or-set_same a.seat.me.0.words (record_word_at place 2) y 0 (omega (arith, p.sound.wide, inside, long_a))

  pub filled_third : slice_index d.seat.me.0.words (record_word_at place 3) ≡ z
  filled_third = ap (λ (l : List ℕ). slice_index l (record_word_at place 3)) words_d ∙ get_or-set_same b.seat.me.0.words (record_word_at place 3) z 0 (omega (arith, p.sound.wide, inside, long_b))

  pub filled_second : slice_index d.seat.me.0.words (record_word_at place 2) ≡ y
  filled_second = ap (λ (l : List ℕ). slice_index l (record_word_at place 2)) words_d ∙ (get_or-set_other b.seat.me.0.words (record_word_at place 3) (record_word_at place 2) z 0 (λ e. omega (arith, e)) ∙ at_b)

  pub filled_first : slice_index d.seat.me.0.words (record_word_at place 1) ≡ x
  filled_first = ap (λ (l : List ℕ). slice_index l (record_word_at place 1)) words_d ∙ (get_or-set_other b.seat.me.0.words (record_word_at place 3) (record_word_at place 1) z 0 (λ e. omega (arith, e))
      ∙ (ap (λ (l : List ℕ). slice_index l (record_word_at place 1)) words_b ∙ (get_or-set_other a.seat.me.0.words (record_word_at place 2) (record_word_at place 1) y 0 (λ e. omega (arith, e)) ∙ at_a)))
