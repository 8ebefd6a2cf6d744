-- What a job comes to, line by line.
use Rattle.std.proofs.Common.{◌≡◌, ℕ, ◌+◌, List, ◌∷◌, ◌++◌, IfOk, Ok, Err, Option, Result, sym, ap, ◌∙◌, subst, append_assoc, MatchResult}
use Rattle.panel.specs.declared.calls.Call.{Call}
use Rattle.job.specs.declared.refused.Refused.{Refused}
use Rattle.job.specs.declared.said.Said.{Said}
use Rattle.job.specs.declared.setup.Setup.{Setup}
use Rattle.job.specs.Text.{words}
use Rattle.job.specs.Stages.{answer_of, led_on_by, led_on_if, stage_after}
use Rattle.job.specs.Settings.{SetBy}
use Rattle.job.specs.Said.{replied, said, LineTold, Told}

-- what the contract of a line says, as one fact
pub line_told :
    (s t : Setup) (l : List ℕ) (r : Result (Option Call) Refused) → r ≡ answer_of s.stage l
    → MatchResult r (λ _. SetBy l s t) (λ _. t ≡ s) → IfOk r (λ _. t.stage ≡ led_on_by s.stage (words 0 l))
    → LineTold s l t
line_told s t l (Ok o) e set led =
    let P : Result (Option Call) Refused → Type 0 = λ r. MatchResult r (λ _. SetBy l s t) (λ _. t ≡ s) in
    record { stage_is = led ∙ ap (led_on_if s.stage (words 0 l)) e; set_is = subst P e set }
line_told s t l (Err x) e set led =
    let P : Result (Option Call) Refused → Type 0 = λ r. MatchResult r (λ _. SetBy l s t) (λ _. t ≡ s) in
    record { stage_is = ap (λ u. u.stage) set ∙ ap (led_on_if s.stage (words 0 l)) e; set_is = subst P e set }

-- one line more has been answered
pub said_more :
    (so_far : List Said) (s t : Setup) (n : ℕ) (l : List ℕ) (all ls : List (List ℕ)) (r : Result (Option Call) Refused)
    → all ≡ l ∷ ls → r ≡ answer_of s.stage l → LineTold s l t
    → so_far ++ said s.stage (n + 1) all ≡ (so_far ++ replied (n + 1) r) ++ said t.stage (n + 1 + 1) ls
said_more so_far s t n l all ls r cut e told =
    ap (λ ks. so_far ++ said s.stage (n + 1) ks) cut
    ∙ (ap (λ a. so_far ++ (replied (n + 1) a ++ said (stage_after s.stage l) (n + 1 + 1) ls)) (sym e)
    ∙ (ap (λ g. so_far ++ (replied (n + 1) r ++ said g (n + 1 + 1) ls)) (sym told.stage_is)
    ∙ sym (append_assoc so_far (replied (n + 1) r) (said t.stage (n + 1 + 1) ls))))

-- and the settings follow
pub told_more :
    (s u t : Setup) (l : List ℕ) (all ls : List (List ℕ)) → all ≡ l ∷ ls → LineTold s l u → Told u ls t → Told s all t
told_more s u t l all ls cut told rest =
    let P : List (List ℕ) → Type 0 = λ ks. Told s ks t in
    subst P (sym cut) (u, told, rest)
