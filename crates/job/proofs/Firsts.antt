-- What the first word of a line decides.
use Rattle.std.proofs.Common.{◌≡◌, ℕ, List, drop, Some, None, Ok, Err, Option, refl, sym, ap}
use Rattle.std.specs.Option.{ok_or}
use Rattle.job.specs.declared.forms.Verb.{Verb}
use Rattle.job.specs.declared.reader.Unreadable.{Unreadable}
use Rattle.job.specs.declared.refused.Refused.TheVariants.{ByJob}
use Rattle.job.specs.declared.setup.Setup.{Setup}
use Rattle.job.specs.declared.setup.Stage.{Stage}
use Rattle.job.specs.Text.{WordAt, words}
use Rattle.job.specs.Reading.{unreadable, read_by}
use Rattle.job.specs.Forms.{verb}
use Rattle.job.specs.Stages.{by_verb, by_words, led_on, led_on_by}
use Rattle.job.specs.Settings.{LineSet, WordsSet}
use Rattle.job.proofs.Cuts.{words_cut}

known : (o : Option Verb) (u : Unreadable) (v : Verb) → ok_or o u ≡ Ok v → o ≡ Some v
known None u v is = absurd cc
known (Some w) u v is = cc

unknown :
    (s : Stage) (o : Option Verb) (end : ℕ) (ws : List WordAt) (e : Unreadable)
    → ok_or o (unreadable 0) ≡ Err e → by_verb s o end ws ≡ Err (ByJob e)
unknown s None end ws e is = cc
unknown s (Some w) end ws e is = absurd cc

module _ (end : ℕ) (bytes : List ℕ) where
  -- The first word is none that begins a line; it begins a line of the kind v.
  pub first_unknown : (s : Stage) (e : Unreadable) → read_by verb end (words 0 bytes) ≡ Err e → by_words s end (words 0 bytes) ≡ Err (ByJob e)
  first_unknown s e is = let h = rw (words_cut 0 bytes) at is in rw (words_cut 0 bytes) (unknown s _ end _ e h)

  module _ (v : Verb) (is : read_by verb end (words 0 bytes) ≡ Ok v) where
    pub first_answers : (s : Stage) → by_verb s (Some v) end (drop 1 (words 0 bytes)) ≡ by_words s end (words 0 bytes)
    first_answers s = let h = rw (words_cut 0 bytes) at is in rw (words_cut 0 bytes, known _ _ v h) refl

    pub first_sets : (s t : Setup) → LineSet v end (drop 1 (words 0 bytes)) s t → WordsSet end (words 0 bytes) s t
    first_sets s t set = let h = rw (words_cut 0 bytes) at is in let set' = rw (words_cut 0 bytes) at set in rw (words_cut 0 bytes, known _ _ v h) set'

    pub first_leads : (s : Stage) → led_on s v ≡ led_on_by s (words 0 bytes)
    first_leads s =
        let h = rw (words_cut 0 bytes) at is in
        rw (words_cut 0 bytes) (sym (ap (λ o. elim o [ None ↦ s | Some w ↦ led_on s w ]) (known _ _ v h)))
