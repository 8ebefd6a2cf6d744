-- What a search answers. Assumes nothing.
--     unfit size from to notes entries a terminal is no node, or the lists of notes and of entries are too short
--     Answer g means t r               the least cost of a route to t, or that there is none
--     Leaves g means t notes r         where t was reached, the notes lead back from it
use Rattle.std.specs.Prelude.{ℕ, ◌+◌, ◌*◌, Bool, ◌||◌, List, Option, Result, MatchOption, IfSome, IfOk, nat_le, nat_lt}
use Rattle.frontier.specs.declared.note.Note.{Note}
use Rattle.frontier.specs.declared.find.Unfit.{Unfit}
use Rattle.frontier.specs.Routes.{Search, LeastCost, HasNoRoute}
use Rattle.frontier.specs.Held.{Traced}

abbrev pub unfit : ℕ → ℕ → ℕ → ℕ → ℕ → Bool
unfit size from to notes entries = nat_le size from || (nat_le size to || (nat_lt notes size || nat_lt entries (6 * size + 1)))

abbrev pub Answer : {C M : Type 0} → Search M → (C → M) → ℕ → Result (Option C) Unfit → Type 0
Answer g means t r = IfOk r (λ found. MatchOption found (HasNoRoute g t) (λ a. LeastCost g t (means a)))

abbrev pub Leaves : {C M : Type 0} → Search M → (C → M) → ℕ → List (Note C) → Result (Option C) Unfit → Type 0
Leaves g means t notes r = IfOk r (λ found. IfSome found (λ a. Traced g means notes t (means a)))
