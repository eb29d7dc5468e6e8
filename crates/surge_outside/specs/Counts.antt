-- Counts of faults and absences, and the numbers of calls.
use Rattle.std.specs.Prelude.{ℕ, zero, suc, ◌+◌, ◌-◌, ◌^◌, ◌≤◌, min, Bool, ◌&&◌, ◌==◌, nat_lt, if◌then◌else◌, List}
use Rattle.std.specs.List.{list_any}

-- the greatest number that a counter of 64 bits can hold
abbrev pub last_count : ℕ
last_count = 2 ^ 64 - 1

-- a count rose, or stands at the end of its type, where it can't rise
abbrev pub HasRisen : ℕ → ℕ → Type 0
HasRisen old new = min (old + 1) last_count ≤ new

-- a count after one more, which stands still at the end of its type
abbrev pub next_count : ℕ → ℕ
next_count n = min (n + 1) last_count

-- whether the call after this many calls is one of those that fail, which are listed by their numbers from 1; the
-- numbers that can be listed end at the last count
abbrev pub is_failing : List ℕ → ℕ → Bool
is_failing fails calls = nat_lt calls last_count && list_any (λ n. n == calls + 1) fails

-- how many of this many calls failed
abbrev pub failures_among : List ℕ → ℕ → ℕ
failures_among fails zero = 0
failures_among fails (suc calls) = failures_among fails calls + (if is_failing fails calls then 1 else 0)
