use Rattle.std.proofs.Common.{sym, refl, arith}
use Rattle.schedulers.specs.Lines.{sound, sound_line}
use Rattle.schedulers.proofs.Queueing.{low, joined, sound_joined, now_waiting}
use Rattle.schedulers.proofs.queue.QueueScheduler.wake.Goals as goal

pub invariant_of-self : goal.invariant_of-self
invariant_of-self c =
    let s = sound_joined _ _ _ _ (sound c.args.self.now) c.args.row (sym c.if-not-is_new.ensures) in
    record {
      places = s.places;
      marks = s.marks;
      inside = s.inside;
      short = s.short;
      members = s.members;
      once = s.once;
      count = s.count;
    }

pub returns : goal.returns
returns c =
    let q = sound c.args.self.now in
    let is-new = sym c.if-not-is_new.ensures in
    record {
      wakes = record {
        added = λ l. (refl, now_waiting _ _ _ _ q c.args.row is-new);
        refused = λ h. absurd (omega (arith, low _ _ _ _ q c.args.row is-new));
      };
      is_line = sound_line _ _ _ _ (sound_joined _ _ _ _ q c.args.row is-new);
      line = joined _ _ _ _ q c.args.row is-new;
    }
