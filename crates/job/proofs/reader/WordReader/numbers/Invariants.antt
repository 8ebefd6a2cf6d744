use Rattle.std.proofs.Common.{◌≡◌, ◌-◌, length, take, drop}
use Rattle.job.specs.Reading.{left, behind, read_numbers}
use Rattle.job.proofs.reader.WordReader.numbers.Given as goal

-- What is read in all is what is read behind the numbers so far.
abbrev pub invariant-loop-value : goal.invariant-loop-value
invariant-loop-value g l =
    (read_numbers g.row.N (length l.initial.self.line.now) (left l.initial.self)
    ≡ behind (take l.value-index l.value-items) (read_numbers (g.row.N - l.value-index) (length l.initial.self.line.now) (left l.self)))
    × (left l.self ≡ drop l.value-index (left l.initial.self))
    × (l.self.line.now ≡ l.initial.self.line.now)
    × (length l.value-items ≡ g.row.N)
