use Rattle.std.proofs.Common.{suc, ◌≡◌, ◌<◌, ◌-◌, ◌+◌, ◌*◌, ◌∙◌, IfOk, true, false, length, refl, sym, ap, subst, arith}
use Rattle.param_space.specs.Configurations.{is_allowed, IsConfig}
use Rattle.seeded_order.specs.Draws.{generator_at, attempt_of, random_config_of}
use Rattle.seeded_order.specs.declared.limits.TheConstants.{MAX_ATTEMPTS}
use Rattle.seeded_order.proofs.RandomConfigs.{attempt_is_config}
use Rattle.seeded_order.proofs.Attempts.{drawn_belong, settled_is_attempt, next_attempt, allowed_now, denied_now, none_left}
use Rattle.seeded_order.proofs.draws.Draws.random_config.Goals as goal

pub loop-attempt-init : goal.loop-attempt-init
unfolding random_config_of
loop-attempt-init c = record {
  drawn = c.generator-generator.ensures ∙ ap (generator_at c.args.self.now c.args.stream) (let none : 0 ≡ 0 * length c.params-params.result.now = omega arith in none);
  left = refl;
}

pub settle-requires : goal.settle-requires
settle-requires c =
    let k = c.loop-attempt._attempt * length c.params-params.result.now in
    let drawn = c.in_ok-config.ensures.value c.args.self.now c.args.stream k c.loop-attempt.invariant.drawn in
    drawn_belong c.args.self.now c.args.stream k c.args.space.now c.params-params.result.now c.in_ok-config.config c.params-params.ensures.space c.params-params.ensures.value drawn

pub returns-then-is_allowed-clause-value : goal.returns-then-is_allowed-clause-value
returns-then-is_allowed-clause-value c =
    let a = c.loop-attempt._attempt in
    let drawn = c.in_ok-config.ensures.value c.args.self.now c.args.stream (a * length c.params-params.result.now) c.loop-attempt.invariant.drawn in
    let attempt : c.settle.new.config ≡ attempt_of c.args.self.now c.args.stream c.args.space.now a =
    settled_is_attempt c.args.self.now c.args.stream a c.args.space.now c.params-params.result.now c.in_ok-config.config c.settle.new.config c.params-params.ensures.value drawn c.settle.ensures.value in
    let passed : is_allowed c.args.space.now (attempt_of c.args.self.now c.args.stream c.args.space.now a) ≡ true =
    ap (is_allowed c.args.space.now) (sym attempt) ∙ sym c.is_allowed.ensures ∙ c.if-is_allowed.true in
    let some : 0 < MAX_ATTEMPTS - a = omega arith in
    attempt ∙ sym (c.loop-attempt.invariant.left ∙ allowed_now c.args.self.now c.args.stream c.args.space.now (MAX_ATTEMPTS - a) a some passed)

pub returns-then-is_allowed-clause-sound : goal.returns-then-is_allowed-clause-sound
returns-then-is_allowed-clause-sound c =
    let a = c.loop-attempt._attempt in
    let drawn = c.in_ok-config.ensures.value c.args.self.now c.args.stream (a * length c.params-params.result.now) c.loop-attempt.invariant.drawn in
    let attempt : c.settle.new.config ≡ attempt_of c.args.self.now c.args.stream c.args.space.now a =
    settled_is_attempt c.args.self.now c.args.stream a c.args.space.now c.params-params.result.now c.in_ok-config.config c.settle.new.config c.params-params.ensures.value drawn c.settle.ensures.value in
    let passed : is_allowed c.args.space.now (attempt_of c.args.self.now c.args.stream c.args.space.now a) ≡ true =
    ap (is_allowed c.args.space.now) (sym attempt) ∙ sym c.is_allowed.ensures ∙ c.if-is_allowed.true in
    subst (IsConfig c.args.space.now) (sym attempt) (attempt_is_config c.args.space.now c.params-params.ensures.space c.args.self.now c.args.stream a passed)

pub loop-attempt-preserved : goal.loop-attempt-preserved
loop-attempt-preserved c =
    let a = c.loop-attempt._attempt in
    let n = length c.params-params.result.now in
    let drawn = c.in_ok-config.ensures.value c.args.self.now c.args.stream (a * n) c.loop-attempt.invariant.drawn in
    let attempt : c.settle.new.config ≡ attempt_of c.args.self.now c.args.stream c.args.space.now a =
    settled_is_attempt c.args.self.now c.args.stream a c.args.space.now c.params-params.result.now c.in_ok-config.config c.settle.new.config c.params-params.ensures.value drawn c.settle.ensures.value in
    let denied : is_allowed c.args.space.now (attempt_of c.args.self.now c.args.stream c.args.space.now a) ≡ false =
    ap (is_allowed c.args.space.now) (sym attempt) ∙ sym c.is_allowed.ensures ∙ c.if-is_allowed.false in
    let one_less : MAX_ATTEMPTS - a ≡ suc (MAX_ATTEMPTS - (a + 1)) = omega arith in
    record {
      drawn = c.in_ok-config.ensures.after c.args.self.now c.args.stream (a * n) c.loop-attempt.invariant.drawn ∙ next_attempt c.args.self.now c.args.stream a n;
      left = c.loop-attempt.invariant.left ∙ denied_now c.args.self.now c.args.stream c.args.space.now (MAX_ATTEMPTS - a) (MAX_ATTEMPTS - (a + 1)) a one_less denied;
    }

pub returns-clause-value : goal.returns-clause-value
returns-clause-value c =
    let none : MAX_ATTEMPTS - c.loop-attempt._attempt ≡ 0 = omega arith in
    let last = c.loop-attempt.invariant.left ∙ none_left c.args.self.now c.args.stream c.args.space.now (MAX_ATTEMPTS - c.loop-attempt._attempt) c.loop-attempt._attempt none in
    subst (λ d. IfOk c.default_config.result (λ v. v ≡ d)) (sym last) c.default_config.ensures.value
