-- Hands, where a place comes to show another state.
use Rattle.std.proofs.Common.{◌≡◌, ℕ, ◌<◌, length, sym, ap, ◌∙◌, subst, true, false, Some}
use Rattle.std.specs.Prelude.{option_map}
use Rattle.std.specs.List.{list_all}
use Rattle.std.proofs.lemmas.Bool.{and_from}
use Rattle.lazy_rec.specs.declared.places.Ref.{Ref}
use Rattle.lazy_rec.specs.declared.records.Rec.{Rec}
use Rattle.lazy_rec.specs.declared.states.SuspState.{SuspState}
use Rattle.lazy_rec.specs.Named.{Records, at_record}
use Rattle.lazy_rec.specs.States.{is_claimed}
use Rattle.heap_store.specs.declared.nodes.Node.{Node}
use Rattle.heap_store.specs.World.{World, recs, node_at, show, is_published, is_claimed_at}
use Rattle.heap_store.specs.Hand.{Hand, IsLawfulHand, contains, all_distinct, claim_places, holds_claim, without_claim, hand_won, has_no_next, is_claim_well, is_marked_well}
use Rattle.heap_store.proofs.ShowLaws.{recs-show}
use Rattle.heap_store.proofs.PlainLists.{without_claim-absent, distinct-without_claim, all-without_claim}
use Rattle.heap_store.proofs.PlainSeen.{claimed-same, no_next-state, claims-state}
use Rattle.heap_store.proofs.PlainSteps.{distinct-cons}

module _ (w : World) (p : ℕ) (r : Rec) (old new : SuspState) (inside : p < length w.nodes) (here : node_at w p ≡ Some (record { rec = r; state = old })) where
  published_same : (q : ℕ) → is_published (recs (show w p r new)) q ≡ is_published (recs w) q
  published_same q = ap (at_record false (λ _. true)) (recs-show w p r new inside old here q)

  -- one that has no claim of the place
  pub hand_apart : (u : Hand) → IsLawfulHand w u → holds_claim u p ≡ false → IsLawfulHand (show w p r new) u
  hand_apart u o absent = record {
    claims = subst (λ l. list_all (is_claim_well (show w p r new)) l ≡ true) (without_claim-absent p u.claims absent) (claims-state w p r old new inside here u.claims o.claims);
    marked = o.marked;
    claims_once = o.claims_once;
    reserved = λ q m. published_same q ∙ o.reserved q m;
    reserved_once = o.reserved_once;
    names = o.names;
    names_once = o.names_once;
  }

  -- one that spends its claim of the place
  pub hand_without : (u h : Hand) → h.claims ≡ without_claim p u.claims → h.reserved ≡ u.reserved → h.names ≡ u.names → IsLawfulHand w u → IsLawfulHand (show w p r new) h
  hand_without u h ec er en o = record {
    claims = ap (list_all (is_claim_well (show w p r new))) ec ∙ claims-state w p r old new inside here u.claims o.claims;
    marked = ap (list_all is_marked_well) ec ∙ all-without_claim is_marked_well p u.claims o.marked;
    claims_once = ap (λ cs. all_distinct (claim_places cs)) ec ∙ distinct-without_claim p u.claims o.claims_once;
    reserved = λ q m. published_same q ∙ o.reserved q (ap (λ xs. contains xs q) (sym er) ∙ m);
    reserved_once = ap all_distinct er ∙ o.reserved_once;
    names = λ q m. o.names q (ap (λ xs. contains xs q) (sym en) ∙ m);
    names_once = ap all_distinct en ∙ o.names_once;
  }

  -- one that wins a claim of it
  pub hand_more : (rs : Records) (u : Hand) (s : Ref) → s.0 ≡ p → IsLawfulHand w u → holds_claim u p ≡ false → is_claimed new ≡ true → has_no_next w p r ≡ true → IsLawfulHand (show w p r new) (hand_won rs u s)
  hand_more rs u s same o absent claimed none_next = let k = hand_apart u o absent in record {
    claims = and_from _ _ (and_from _ _ (ap (is_claimed_at (show w p r new)) same ∙ (claimed-same w p r old new inside here ∙ claimed)) (rw (ap (recs (show w p r new)) same ∙ own) (ap (λ z. has_no_next (show w p r new) z r) same ∙ (no_next-state w p r old new inside here p r ∙ none_next)))) k.claims;
    marked = o.marked;
    claims_once = distinct-cons s.0 (claim_places u.claims) (ap (contains (claim_places u.claims)) same ∙ absent) o.claims_once;
    reserved = k.reserved;
    reserved_once = k.reserved_once;
    names = k.names;
    names_once = k.names_once;
  }
    where
      own : recs (show w p r new) p ≡ Some r
      own = recs-show w p r new inside old here p ∙ ap (option_map (λ (n : Node). n.rec)) here
