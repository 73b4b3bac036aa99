use Rattle.std.proofs.Common.{sym}
use Rattle.schedulers.specs.Lines.{sound, is_line, sound_line}
use Rattle.schedulers.proofs.Queueing.{some, served, sound_served, first_low, first_waits, still_waiting}
use Rattle.schedulers.proofs.queue.QueueScheduler.take.Goals as goal

pub overflow_sub-self : goal.overflow_sub-self
overflow_sub-self c = some _ _ _ _ (sound c.args.self.now) _ (sym c.in_ok-row.ensures)

pub bounds-self-row : goal.bounds-self-row
bounds-self-row c = first_low _ _ _ _ (sound c.args.self.now) _ (sym c.in_ok-row.ensures)

pub invariant_of-self : goal.invariant_of-self
invariant_of-self c =
    let s = sound_served _ _ _ _ (sound c.args.self.now) _ (sym c.in_ok-row.ensures) in
    record {
      places = s.places;
      marks = s.marks;
      inside = s.inside;
      short = s.short;
      members = s.members;
      once = s.once;
      count = s.count;
    }

pub returns : goal.returns
returns c =
    let q = sound c.args.self.now in
    let front = sym c.in_ok-row.ensures in
    record {
      takes = (first_waits _ _ _ _ q _ front, still_waiting _ _ _ _ q _ front);
      is_line = (is_line c.args.self.now, sound_line _ _ _ _ (sound_served _ _ _ _ q _ front));
      line = served _ _ _ _ q _ front;
    }
