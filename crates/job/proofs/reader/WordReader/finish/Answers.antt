use Rattle.std.proofs.Common.{drop, sym, ap, ◌∙◌}
use Rattle.job.specs.Reading.{words_from, read_end}
use Rattle.job.proofs.Cuts.{words_cut}
use Rattle.job.proofs.reader.WordReader.finish.Goals as goal

pub returns-in-Some : goal.returns-in-Some
returns-in-Some c =
    sym (ap (λ next. read_end (words_from c.args.self.now.line.now next)) c.in-Some.is
    ∙ ap read_end (words_cut c.in-Some.place (drop c.in-Some.place c.args.self.now.line.now)))
