use Rattle.std.proofs.Common.{rules, arith}
use Rattle.std.proofs.lemmas.Grind.{common_steps}
use Rattle.schedulers.specs.Lanes.{First, Second, belongs}
use Rattle.schedulers.proofs.Serving.{of_first, takes_second, of_second}
use Rattle.schedulers.proofs.lanes.LanesScheduler.take.Goals as goal

pub returns-in-Some : goal.returns-in-Some
returns-in-Some g c =
    let first = c.in-Some.ensures (belongs c.args.self.now.boundary First) (λ k answer p. search rules) in
    record {
      takes = grind (arith, common_steps);
      lanes = of_first g.A.Scheduler.waits g.B.Scheduler.waits c.args.self.now _ c.in-Some.row first;
    }

pub returns-in-None : goal.returns-in-None
returns-in-None g c =
    let boundary = c.args.self.now.boundary in
    let first = c.in-None.ensures (belongs boundary First) (λ k answer p. search rules) in
    let second = c.take_where-in-None.ensures (belongs boundary Second) (λ k answer p. search rules) in
    record {
      takes = takes_second g.A.Scheduler.waits g.B.Scheduler.waits c.args.self.now _ _ first _ second;
      lanes = of_second g.A.Scheduler.waits g.B.Scheduler.waits c.args.self.now _ _ first _ second (g.met.B.Scheduler.bounded c.args.self.now.second);
    }
