-- Laws of implications between tests.
use Rattle.std.proofs.Common.{◌≡◌, Bool, true, false, refl, sym}
use Rattle.std.proofs.lemmas.Bool.{true≢false}
use Rattle.lazy_rec.specs.Tests.{implies}

pub implies_from : (x y : Bool) → (x ≡ true → y ≡ true) → implies x y ≡ true
implies_from true y h = h refl
implies_from false y h = refl

pub implies_to : (x y : Bool) → implies x y ≡ true → x ≡ true → y ≡ true
implies_to true y h e = h
implies_to false y h e = absurd (true≢false (sym e))
