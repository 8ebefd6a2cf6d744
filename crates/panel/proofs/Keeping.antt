-- What every run keeps: the standing pieces in order, and so their clearance. Assumes nothing.
use Rattle.std.proofs.Common.{ℕ, ◌+◌, T, List, [], ◌∷◌, ◌++◌, Ok, Err, refl, arith}
use Rattle.std.proofs.Math.Facts.{T_not-not, not_T}
use Rattle.geometry.specs.Clearance.{in_order}
use Rattle.panel.specs.declared.sheet.Sheet.{Sheet}
use Rattle.panel.specs.Standing.{Standing, nothing_stands}
use Rattle.panel.specs.Runs.{Event, placing, lifting, next, told_from, Answered, RunFrom, PromiseFrom, RunsKeepThePromise}
use Rattle.panel.proofs.Lifting.{without_in_order}
use Rattle.panel.proofs.Placing.{with_in_order}

-- an event that is answered rightly keeps the pieces in order
pub next_in_order :
    (s : Sheet) (places : ℕ) (st : Standing) (e : Event) → Answered s places st e → T (in_order st.pieces) → T (in_order (next st e).pieces)
next_in_order s places st (placing a (Ok job)) right h =
    with_in_order s a (st.jobs + 1) st.pieces _ refl (T_not-not _ (not_T _ right.0.1.1.0)) (T_not-not _ (not_T _ right.0.1.1.1.0)) h
next_in_order s places st (placing a (Err e)) right h = h
next_in_order s places st (lifting job (Ok count)) right h = without_in_order job st.pieces _ refl h
next_in_order s places st (lifting job (Err e)) right h = h

keeps_from :
    (s : Sheet) (places : ℕ) (st : Standing) (es : List Event) → T (in_order st.pieces) → RunFrom s places st es → PromiseFrom st es
keeps_from s places st [] h run = grind arith
keeps_from s places st (e ∷ es) h run =
    (grind arith, keeps_from s places (next st e) es (next_in_order s places st e run.0 h) run.1)

pub runs_keep : (places : ℕ) → RunsKeepThePromise places
runs_keep places s es run = keeps_from s places nothing_stands es tt run

-- one event more
pub run_more :
    (s : Sheet) (places : ℕ) (st : Standing) (es : List Event) (e : Event)
    → RunFrom s places st es → Answered s places (told_from st es) e → RunFrom s places st (es ++ (e ∷ []))
run_more s places st [] e run h = (h, tt)
run_more s places st (d ∷ es) e run h = (run.0, run_more s places (next st d) es e run.1 h)
