-- Numbers that are read one behind the other.
use Rattle.std.proofs.Common.{◌≡◌, ℕ, suc, ◌+◌, ◌-◌, ◌<◌, ◌≤◌, List, [], ◌∷◌, ◌++◌, drop, Ok, Err, Result, sym, refl, ap, append_assoc, append-nil, arith}
use Rattle.job.specs.declared.reader.Unreadable.{Unreadable}
use Rattle.job.specs.Text.{WordAt}
use Rattle.job.specs.Numbers.{number}
use Rattle.job.specs.Reading.{then_read, behind, read_by, read_numbers}

pub behind_none : (r : Result (List ℕ) Unreadable) → behind [] r ≡ r
behind_none (Ok ms) = refl
behind_none (Err e) = refl

behind_one : (ns : List ℕ) (n : ℕ) (r : Result (List ℕ) Unreadable) → behind ns (behind (n ∷ []) r) ≡ behind (ns ++ n ∷ []) r
behind_one ns n (Ok ms) = ap Ok (sym (append_assoc ns (n ∷ []) ms))
behind_one ns n (Err e) = refl

module _ (ns : List ℕ) (k i end : ℕ) (ws : List WordAt) where
  next_read : i < k → read_numbers (k - i) end ws ≡ then_read (read_by number end ws) (λ n. behind (n ∷ []) (read_numbers (k - (i + 1)) end (drop 1 ws)))
  next_read h = let e : k - i ≡ suc (k - (i + 1)) = omega arith in rw e

  -- The next word is a number; it does not fit; no more are asked for.
  pub read_goes_on :
      (n : ℕ) → i < k → read_by number end ws ≡ Ok n
      → behind ns (read_numbers (k - i) end ws) ≡ behind (ns ++ n ∷ []) (read_numbers (k - (i + 1)) end (drop 1 ws))
  read_goes_on n h e = rw (next_read h, e) (behind_one ns n (read_numbers (k - (i + 1)) end (drop 1 ws)))

  pub read_stops : (e : Unreadable) → i < k → read_by number end ws ≡ Err e → behind ns (read_numbers (k - i) end ws) ≡ Err e
  read_stops e h stop = rw (next_read h, stop)

  pub read_ends : k ≤ i → behind ns (read_numbers (k - i) end ws) ≡ Ok ns
  read_ends h = let e : k - i ≡ 0 = omega arith in rw e (ap Ok (append-nil ns))
