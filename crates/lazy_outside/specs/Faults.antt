-- How a count of failed calls moves. A count is a u64, which stands still at its end.
use Rattle.std.specs.Prelude.{◌+◌, ◌-◌, ◌^◌, ◌≤◌, ℕ, min}
use Rattle.lazy_outside.specs.declared.Taken.{Taken}
use Rattle.lazy_outside.specs.declared.Given.{Given}
use Rattle.lazy_outside.specs.declared.Taken.TheVariants as taken
use Rattle.lazy_outside.specs.declared.Given.TheVariants as given

-- one more, or the greatest u64
abbrev pub one_more : ℕ → ℕ
one_more n = min (n + 1) (2 ^ 64 - 1)

-- the count rose, or stands at its end
abbrev pub Rises : ℕ → ℕ → Type 0
Rises old new = one_more old ≤ new

-- the count after a take: one more exactly where it failed
abbrev pub faults_after_take : ℕ → Taken → ℕ
faults_after_take faults (taken.Bytes n) = faults
faults_after_take faults taken.End = faults
faults_after_take faults taken.Failed = one_more faults

-- the count after a give: one more exactly where it failed
abbrev pub faults_after_give : ℕ → Given → ℕ
faults_after_give faults (given.Bytes n) = faults
faults_after_give faults given.Failed = one_more faults
