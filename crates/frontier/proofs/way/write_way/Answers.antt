use Rattle.std.proofs.Common.{◌≡◌, ℕ, ◌++◌, length, drop, ap, ◌∙◌, arith, rules}
use Rattle.std.proofs.lemmas.List.{length-take-le}
use Rattle.frontier.proofs.Walk.{leads_one}
use Rattle.frontier.proofs.way.write_way.Goals as goal

pub returns-then-way-count : goal.returns-then-way-count
returns-then-way-count g c =
    let w = c.in_ok-count.ensures in
    record {
      written = λ back h few.
          let same = ap length (leads_one c.args.notes.now c.args.from w.back back c.args.to w.leads h) in
          omega (arith, same, w.count, c.if-way-count.true);
      unchanged = search rules;
    }

pub returns : goal.returns
returns g c =
    let w = c.in_ok-count.ensures in
    let long = length-take-le c.in_ok-count.count c.args.way.now c.if-way-count.false ∙ w.count in
    record {
      written = record {
        way = w;
        whole = ap (λ l. l ++ drop c.in_ok-count.count c.args.way.now)
            (c.fill_back.ensures c.args.from w.back w.leads long);
      };
      unchanged = λ h. let z : ◌≡◌ {A = ℕ} 0 1 = cc in absurd (omega arith);
    }
