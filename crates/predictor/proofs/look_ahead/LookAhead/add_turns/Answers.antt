use Rattle.std.proofs.Common.{rules, ◌≡◌, ◌+◌, ◌-◌, true, false, Ok, sym, ap, ◌∙◌, arith}
use Rattle.run_cache.specs.Caches.{known_in}
use Rattle.predictor.specs.Choices.{has_room, with_runs}
use Rattle.predictor.specs.LookAheads.{after}
use Rattle.predictor.specs.Wishes.{runs_ahead}
use Rattle.predictor.proofs.KeptSteps.{goes-on-both}
use Rattle.predictor.proofs.Turns.{turns_over, last_turn, next_turn, full_turn}
use Rattle.predictor.proofs.look_ahead.LookAhead.add_turns.Goals as goal

pub returns-in_default-clause-runs : goal.returns-in_default-clause-runs
returns-in_default-clause-runs g c = λ done.
    last_turn (g.P.Search.shown c.loop-turn.self.rules) c.args.cache.now.limits (known_in c.args.cache.now) 256 c.loop-turn.turn c.loop-turn.choice
    (after c.loop-turn.self (c.loop-turn.turn + 1)) (omega arith) c.ask_after.result.now c.ask_after.ensures.value c.add_turn.new.choice c.in_ok-reply.ensures.runs
    (sym c.in_default.is ∙ c.in_ok-reply.ensures.reply)
    ∙ c.loop-turn.invariant.same

pub returns-then-not-has_room-clause-runs : goal.returns-then-not-has_room-clause-runs
returns-then-not-has_room-clause-runs g c = λ done.
    let full : has_room c.add_turn.new.choice ≡ false = search rules in
    full_turn (g.P.Search.shown c.loop-turn.self.rules) c.args.cache.now.limits (known_in c.args.cache.now) 256 c.loop-turn.turn c.loop-turn.choice
    (after c.loop-turn.self (c.loop-turn.turn + 1)) (omega arith) c.ask_after.result.now c.ask_after.ensures.value c.add_turn.new.choice c.in_ok-reply.ensures.runs
    c.in-Some.reply (sym c.in-Some.is ∙ c.in_ok-reply.ensures.reply) full
    ∙ c.loop-turn.invariant.same

pub loop-turn-preserved : goal.loop-turn-preserved
loop-turn-preserved g c =
    let went : c.go_by.result ≡ Ok true = search rules in
    let before = c.loop-turn.invariant.few in
    let few = c.go_by.ensures.few in
    let long = c.go_by.ensures.long went in
    record {
      on = goes-on-both c.args.self.now c.loop-turn.self c.go_by.new.self c.loop-turn.invariant.on c.go_by.ensures.on;
      long = omega (arith, long);
      few = omega (arith, before, few);
      same =
          ap (λ rules. with_runs (known_in c.args.cache.now) c.add_turn.new.choice (runs_ahead (g.P.Search.shown rules) c.args.cache.now.limits (known_in c.args.cache.now)
          (256 - (c.loop-turn.turn + 1)) (after c.go_by.new.self (c.loop-turn.turn + 1 + 1)))) c.go_by.ensures.on.rules
          ∙ next_turn (g.P.Search.shown c.loop-turn.self.rules) c.args.cache.now.limits (known_in c.args.cache.now) 256 c.loop-turn.turn c.loop-turn.choice
          (after c.loop-turn.self (c.loop-turn.turn + 1)) (omega arith) c.ask_after.result.now c.ask_after.ensures.value c.add_turn.new.choice c.in_ok-reply.ensures.runs
          c.in-Some.reply (sym c.in-Some.is ∙ c.in_ok-reply.ensures.reply) (after c.go_by.new.self (c.loop-turn.turn + 1 + 1)) (c.go_by.ensures.taken went)
          ∙ c.loop-turn.invariant.same;
    }

pub returns-clause-runs : goal.returns-clause-runs
returns-clause-runs g c = λ done.
    turns_over (g.P.Search.shown c.loop-turn.self.rules) c.args.cache.now.limits (known_in c.args.cache.now) 256 c.loop-turn.turn c.loop-turn.choice
    (after c.loop-turn.self (c.loop-turn.turn + 1)) (omega arith)
    ∙ c.loop-turn.invariant.same
