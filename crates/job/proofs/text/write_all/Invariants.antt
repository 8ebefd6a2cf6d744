use Rattle.std.proofs.Common.{◌≡◌, ◌++◌, drop, string_bytes}
use Rattle.job.specs.Written.{text_of}
use Rattle.job.proofs.text.write_all.Given as goal

-- What all lines are answered with is what is written so far, and what those that are left are.
abbrev pub invariant-loop-s : goal.invariant-loop-s
invariant-loop-s l = text_of l.said l.answers ≡ string_bytes l.text ++ text_of (drop l.s-index l.said) l.left.rest.now
