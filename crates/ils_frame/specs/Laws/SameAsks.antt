-- A search over any comparer, answered by total costs, shows the asks and the entries of the procedure, and its
-- incumbent keeps the incumbent invariant.
use Rattle.std.proofs.Common.{ℕ, zero, suc, ◌≡◌, ◌+◌, ◌≤◌, ◌<◌, Bool, true, false, List, [], ◌∷◌, ◌++◌, map, filter, take, length, slice_get, Option, Some, None, IfSome, IsSome, is_some, nat_le, cond, refl, sym, ◌∙◌, ap, subst, arith, append_assoc, length-append}
use Rattle.std.proofs.lemmas.Bool.{leb-true, le-leb}
use Rattle.std.proofs.lemmas.List.{append-nil, map-append}
use Rattle.std.proofs.lemmas.List.Elements.{filter-append}
use Rattle.std.proofs.lemmas.List.Sums.{fold-append}
use Rattle.objective.specs.Limits
use Rattle.uncapped.specs.Procedure.{Settings, Sums, Question, Incumbent, Addition, PlainState, Finished, Aborted, Procedure}
use Rattle.uncapped.specs.Setup.{Setup}
use Rattle.uncapped.specs.Evaluation.{counts_after}
use Rattle.uncapped.specs.Uncapped.{Run, run_after, or_nothing}
use Rattle.ils_face.specs.declared.asks.Reply.{Reply}
use Rattle.ils_face.specs.Replies.{Fits, ask_of, reply_up_to, cost_asked, reply_to}
use Rattle.ils_frame.specs.Comparers.{AskedStage, Ready, Asking, Decided, is_asking, question_in, Parts, IsSteadyComparer, additions_after, Keeps}
use Rattle.ils_frame.specs.Machine.{Machine, next_machine, after_all, view_of}
use Rattle.ils_frame.specs.ShownIncumbents.{runs_after, HasInvariant}
use Rattle.ils_frame.specs.Laws.StandsFor.{answered_state, search_coming, IsSound, StandsAfter, stands_after, aborts, finishes}
use Rattle.ils_frame.specs.Laws.AllowedConfigs.{DrawsAllowed}
use Rattle.ils_frame.specs.Laws.MachineInvariant.{Replied, replies, not-asking}

-- ---- entries by the number of asks before them

-- the entry without its number
abbrev pub entry_in : Addition → Incumbent
entry_in a = a.entry

-- it was added before ask k was made
abbrev pub is_before : ℕ → Addition → Bool
is_before k a = nat_le a.asks_before k

-- all were added after more than n asks
abbrev pub AreLater : ℕ → List Addition → Type 0
AreLater n [] = Unit {0}
AreLater n (a ∷ rest) = (n < a.asks_before) × AreLater n rest

pub unnumbered : (n : ℕ) (new : List Incumbent) → map entry_in (additions_after n new) ≡ new
unnumbered n [] = refl
unnumbered n (e ∷ new) = ap (λ es. e ∷ es) (unnumbered n new)

pub before-all : (n k : ℕ) (new : List Incumbent) → n ≤ k → filter (is_before k) (additions_after n new) ≡ additions_after n new
before-all n k [] h = refl
before-all n k (e ∷ new) h = rw (le-leb n k h) (ap (λ es. record { asks_before = n; entry = e } ∷ es) (before-all n k new h))

before-none : (n : ℕ) (late : List Addition) → AreLater n late → filter (is_before n) late ≡ []
before-none n [] h = refl
before-none n (a ∷ rest) h = at_either (before-none n rest h.1) (nat_le a.asks_before n) refl
  where
    at_either : filter (is_before n) rest ≡ [] → (b : Bool) → nat_le a.asks_before n ≡ b → (cond b (a ∷ filter (is_before n) rest) (filter (is_before n) rest)) ≡ []
    at_either later true e = let w : a.asks_before ≤ n = leb-true a.asks_before n e in let z = h.0 in absurd (omega (arith, w, z))
    at_either later false e = later

later-additions : (n m : ℕ) (new : List Incumbent) → n < m → AreLater n (additions_after m new)
later-additions n m [] h = tt
later-additions n m (e ∷ new) h = (h, later-additions n m new h)

later-less : (n m : ℕ) (late : List Addition) → n ≤ m → AreLater m late → AreLater n late
later-less n m [] h l = tt
later-less n m (a ∷ rest) h l = (let z = l.0 in omega (arith, z, h), later-less n m rest h l.1)

later-append : (n : ℕ) (a b : List Addition) → AreLater n a → AreLater n b → AreLater n (a ++ b)
later-append n [] b l m = m
later-append n (x ∷ a) b l m = (l.0, later-append n a b l.1 m)

-- ---- the run from a machine on

-- from the machine f on, after the state s, the run goes on with the rest
pub record Plays {S : Type 0} (parts : Parts S) (setup : Setup) (sums : Sums) (f : Machine S) (s : PlainState) (run : Run) : Type 0 where
  pub rest : List Question
  pub late : List Addition
  pub count : ℕ  -- the asks that have a reply
  pub all_asks : run.asks ≡ s.asks ++ rest
  pub all_entries : run.entries ≡ s.entries ++ late
  pub later : AreLater (length s.asks) late
  pub shown_asks : (k : ℕ) → k ≤ count → question_in (parts.stage (after_all parts setup f (map (reply_to sums) (take k rest))).comparer) ≡ slice_get rest k
  pub shown_entries : (k : ℕ) → k ≤ count → parts.entries (after_all parts setup f (map (reply_to sums) (take k rest))).comparer ≡ parts.entries f.comparer ++ map entry_in (filter (is_before (length s.asks + k)) late)
  pub known : (k : ℕ) → k < count → IfSome (slice_get rest k) (λ q. IsSome (cost_asked sums q))
  pub led : (k : ℕ) → k ≤ count → HasInvariant sums (s.asks ++ take k rest) (parts.last (after_all parts setup f (map (reply_to sums) (take k rest))).comparer)
  pub finished : run.end ≡ Finished → (length rest ≡ count) × (parts.entries (after_all parts setup f (map (reply_to sums) rest)).comparer ≡ parts.entries f.comparer ++ map entry_in late)
      × (parts.last (after_all parts setup f (map (reply_to sums) rest)).comparer ≡ run.last)
  pub aborted : run.end ≡ Aborted → (length rest ≡ suc count) × IfSome (slice_get rest count) (λ q. cost_asked sums q ≡ None)
      × (parts.entries (after_all parts setup f (map (reply_to sums) (take count rest))).comparer
      ≡ parts.entries f.comparer ++ map entry_in late)

not_finished : {A : Type 0} → Aborted ≡ Finished → A
not_finished e = absurd (cc)

not_aborted : {A : Type 0} → Finished ≡ Aborted → A
not_aborted e = absurd (cc)

-- one more ask counts
runs_after-more : (asks : List Question) (q : Question) → runs_after (asks ++ q ∷ []) ≡ counts_after (runs_after asks) q.config q.places
runs_after-more asks q = fold-append (λ counts q. counts_after counts q.config q.places) (λ _. 0) asks (q ∷ [])

some_known : (o : Option ℕ) (x : ℕ) → o ≡ Some x → IsSome o
some_known o x e = ap is_some e

module _ {S : Type 0} (parts : Parts S) (fit : S → Type 0) (stands : S → PlainState → Type 0) (coming : S → Procedure Bool) (better : Settings → Settings → Procedure Bool) (opening : Procedure (Unit {0}))
    (setup : Setup) (sums : Sums) (first : S) (keeps : Keeps parts fit stands coming better opening setup sums first)
    (allowed : Settings → Type 0) (draws : DrawsAllowed allowed setup) (few_steps : setup.strength ≤ Limits.max_strength) (steady : IsSteadyComparer parts fit setup.max_runs allowed setup.start first)
    (fitting : (q : Question) (x : ℕ) → Fits (ask_of q.config q.places q.bound) (reply_up_to x q.bound)) where
  abbrev Sound : Machine S → PlainState → Type 0
  Sound f s = IsSound parts fit stands coming better opening setup sums first keeps allowed draws few_steps steady fitting f s

  abbrev PlaysFrom : Machine S → PlainState → Type 0
  PlaysFrom f s = Plays parts setup sums f s (run_after sums (search_coming parts setup better coming f s))

  -- the counts of a state are those by its asks
  abbrev IsCounted : PlainState → Type 0
  IsCounted s = s.counts ≡ runs_after s.asks

  led_here : (f : Machine S) (s : PlainState) → Sound f s → IsCounted s → HasInvariant sums (s.asks ++ []) (parts.last f.comparer)
  led_here f s k c = subst (λ qs. HasInvariant sums qs (parts.last f.comparer)) (sym (append-nil s.asks)) (record {
    state = s;
    asked = refl;
    counted = c;
    shown = keeps.last f.comparer s k.stays_fitting.stays_fit k.stays;
    invariant = keeps.leads f.comparer s k.stays_fitting.stays_fit k.stays;
  })

  led_nothing : (f : Machine S) (s : PlainState) → HasInvariant sums (s.asks ++ []) (parts.last f.comparer) → (k : ℕ) → k ≤ 0
      → HasInvariant sums (s.asks ++ take k []) (parts.last (after_all parts setup f (map (reply_to sums) (take k []))).comparer)
  unfolding after_all
  led_nothing f s here zero h = here
  led_nothing f s here (suc k) h = absurd (omega (arith, h))

  led_one : (f : Machine S) (s : PlainState) (q : Question) → HasInvariant sums (s.asks ++ []) (parts.last f.comparer) → (k : ℕ) → k ≤ 0
      → HasInvariant sums (s.asks ++ take k (q ∷ [])) (parts.last (after_all parts setup f (map (reply_to sums) (take k (q ∷ [])))).comparer)
  unfolding after_all
  led_one f s q here zero h = here
  led_one f s q here (suc k) h = absurd (omega (arith, h))

  asks_nothing : (f : Machine S) → question_in (parts.stage f.comparer) ≡ None → (k : ℕ) → k ≤ 0 → question_in (parts.stage (after_all parts setup f (map (reply_to sums) (take k []))).comparer) ≡ slice_get [] k
  unfolding after_all
  asks_nothing f none zero h = none
  asks_nothing f none (suc k) h = absurd (omega (arith, h))

  shows_same : (f : Machine S) (n k : ℕ) → k ≤ 0 → parts.entries (after_all parts setup f (map (reply_to sums) (take k []))).comparer ≡ parts.entries f.comparer ++ map entry_in (filter (is_before (n + k)) [])
  unfolding after_all
  shows_same f n zero h = sym (append-nil (parts.entries f.comparer))
  shows_same f n (suc k) h = absurd (omega (arith, h))

  done : (f : Machine S) (s : PlainState) → Sound f s → IsCounted s → is_asking (parts.stage f.comparer) ≡ false → PlaysFrom f s
  unfolding after_all
  done f s k c e = rw (finishes parts fit stands coming better opening setup sums first keeps allowed draws few_steps steady fitting f s k e) (record {
    rest = [];
    late = [];
    count = 0;
    all_asks = sym (append-nil s.asks);
    all_entries = sym (append-nil s.entries);
    later = tt;
    shown_asks = asks_nothing f (not-asking (parts.stage f.comparer) e);
    shown_entries = shows_same f (length s.asks);
    known = λ k h. absurd (omega (arith, h));
    led = led_nothing f s (led_here f s k c);
    finished = λ o. (refl, sym (append-nil (parts.entries f.comparer)), keeps.last f.comparer s k.stays_fitting.stays_fit k.stays);
    aborted = λ o. not_aborted o;
  })

  asks_one : (f : Machine S) (q : Question) → question_in (parts.stage f.comparer) ≡ Some q → (k : ℕ) → k ≤ 0 → question_in (parts.stage (after_all parts setup f (map (reply_to sums) (take k (q ∷ [])))).comparer) ≡ slice_get (q ∷ []) k
  unfolding after_all
  asks_one f q e zero h = e
  asks_one f q e (suc k) h = absurd (omega (arith, h))

  shows_none : (f : Machine S) (q : Question) (n k : ℕ) → k ≤ 0 → parts.entries (after_all parts setup f (map (reply_to sums) (take k (q ∷ [])))).comparer ≡ parts.entries f.comparer ++ map entry_in (filter (is_before (n + k)) [])
  unfolding after_all
  shows_none f q n zero h = sym (append-nil (parts.entries f.comparer))
  shows_none f q n (suc k) h = absurd (omega (arith, h))

  stopped : (f : Machine S) (s : PlainState) (q : Question) → Sound f s → IsCounted s → parts.stage f.comparer ≡ Asking q → cost_asked sums q ≡ None → PlaysFrom f s
  unfolding after_all
  stopped f s q k c e unknown = rw (aborts parts fit stands coming better opening setup sums first keeps allowed draws few_steps steady fitting f s q k e unknown) (record {
    rest = q ∷ [];
    late = [];
    count = 0;
    all_asks = refl;
    all_entries = sym (append-nil s.entries);
    later = tt;
    shown_asks = asks_one f q (ap question_in e);
    shown_entries = shows_none f q (length s.asks);
    known = λ k h. absurd (omega (arith, h));
    led = led_one f s q (led_here f s k c);
    finished = λ o. not_finished o;
    aborted = λ o. (refl, unknown, sym (append-nil (parts.entries f.comparer)));
  })

  module _ (f : Machine S) (s : PlainState) (q : Question) (x : ℕ) (e : parts.stage f.comparer ≡ Asking q) (known : cost_asked sums q ≡ Some x) where
    abbrev g : Machine S
    g = next_machine parts setup f (reply_up_to x q.bound)

    abbrev u : PlainState
    u = answered_state parts setup f (reply_up_to x q.bound) s

    replied_so : reply_to sums q ≡ reply_up_to x q.bound
    replied_so = ap (λ o. reply_up_to (or_nothing o) q.bound) known

    -- the reply to the first ask leads to the next machine
    on : (rs : List Reply) → after_all parts setup f (reply_to sums q ∷ rs) ≡ after_all parts setup g rs
    unfolding after_all
    on rs = ap (λ r. after_all parts setup (next_machine parts setup f r) rs) replied_so

    goes_on_playing : HasInvariant sums (s.asks ++ []) (parts.last f.comparer) → StandsAfter parts fit stands coming better opening setup sums first keeps allowed draws few_steps steady fitting f s q (reply_up_to x q.bound) → PlaysFrom g u → PlaysFrom f s
    unfolding after_all
    goes_on_playing here t p = rw t.same (record {
      rest = q ∷ p.rest;
      late = additions_after (length s.asks + 1) new ++ p.late;
      count = suc p.count;
      all_asks = p.all_asks ∙ ap (λ asks. asks ++ p.rest) t.asks ∙ append_assoc s.asks (q ∷ []) p.rest;
      all_entries = p.all_entries ∙ ap (λ es. es ++ p.late) t.entries ∙ append_assoc s.entries (additions_after (length s.asks + 1) new) p.late;
      later = later-append (length s.asks) (additions_after (length s.asks + 1) new) p.late (later-additions (length s.asks) (length s.asks + 1) new (omega arith))
          (later-less (length s.asks) (length u.asks) p.late (let n = number in omega (arith, n)) p.later);
      shown_asks = asks_on;
      shown_entries = entries_on;
      known = known_on;
      led = led_on;
      finished = λ o. (
        ap suc (p.finished o).0,
        ap (λ m. parts.entries m.comparer) (on (map (reply_to sums) p.rest)) ∙ (p.finished o).1 ∙ joined (map entry_in p.late),
        ap (λ m. parts.last m.comparer) (on (map (reply_to sums) p.rest)) ∙ (p.finished o).2,
      );
      aborted = λ o. (
        ap suc (p.aborted o).0,
        (p.aborted o).1,
        ap (λ m. parts.entries m.comparer) (on (map (reply_to sums) (take p.count p.rest)))
            ∙ (p.aborted o).2 ∙ joined (map entry_in p.late),
      );
    })
      where
        new : List Incumbent
        new = parts.added f.comparer (reply_up_to x q.bound)

        number : length u.asks ≡ length s.asks + 1
        number = ap length t.asks ∙ length-append s.asks (q ∷ [])

        split : (es : List Incumbent) → parts.entries g.comparer ++ es ≡ parts.entries f.comparer ++ (new ++ es)
        split es = ap (λ old. old ++ es) t.grown ∙ append_assoc (parts.entries f.comparer) new es

        joined : (es : List Incumbent) → parts.entries g.comparer ++ map entry_in p.late ≡ parts.entries f.comparer ++ map entry_in (additions_after (length s.asks + 1) new ++ p.late)
        joined es = split (map entry_in p.late) ∙ ap (λ es. parts.entries f.comparer ++ es) (ap (λ n. n ++ map entry_in p.late) (sym (unnumbered (length s.asks + 1) new)) ∙ sym (map-append entry_in (additions_after (length s.asks + 1) new) p.late))

        asks_on : (k : ℕ) → k ≤ suc p.count → question_in (parts.stage (after_all parts setup f (map (reply_to sums) (take k (q ∷ p.rest)))).comparer) ≡ slice_get (q ∷ p.rest) k
        asks_on zero h = ap question_in e
        asks_on (suc k) h = ap (λ m. question_in (parts.stage m.comparer)) (on (map (reply_to sums) (take k p.rest))) ∙ p.shown_asks k (omega (arith, h))

        -- those that were just added, and those of the rest that were added before
        sorted : (k : ℕ) → filter (is_before (length s.asks + suc k)) (additions_after (length s.asks + 1) new ++ p.late) ≡ additions_after (length s.asks + 1) new ++ filter (is_before (length u.asks + k)) p.late
        sorted k = filter-append (is_before (length s.asks + suc k)) (additions_after (length s.asks + 1) new) p.late
            ∙ ap (λ es. es ++ filter (is_before (length s.asks + suc k)) p.late) (before-all (length s.asks + 1) (length s.asks + suc k) new (omega arith))
            ∙ ap (λ n. additions_after (length s.asks + 1) new ++ filter (is_before n) p.late) (let n = number in omega (arith, n))

        entries_on : (k : ℕ) → k ≤ suc p.count → parts.entries (after_all parts setup f (map (reply_to sums) (take k (q ∷ p.rest)))).comparer
            ≡ parts.entries f.comparer ++ map entry_in (filter (is_before (length s.asks + k)) (additions_after (length s.asks + 1) new ++ p.late))
        entries_on zero h = sym (append-nil (parts.entries f.comparer))
            ∙ ap (λ es. parts.entries f.comparer ++ map entry_in es) (sym (ap (λ n. filter (is_before n) (additions_after (length s.asks + 1) new ++ p.late)) (omega arith)
            ∙ before-none (length s.asks) (additions_after (length s.asks + 1) new ++ p.late)
            (later-append (length s.asks) (additions_after (length s.asks + 1) new) p.late (later-additions (length s.asks) (length s.asks + 1) new (omega arith))
            (later-less (length s.asks) (length u.asks) p.late (let n = number in omega (arith, n)) p.later))))
        entries_on (suc k) h = ap (λ m. parts.entries m.comparer) (on (map (reply_to sums) (take k p.rest))) ∙ p.shown_entries k (omega (arith, h))
            ∙ split (map entry_in (filter (is_before (length u.asks + k)) p.late))
            ∙ ap (λ es. parts.entries f.comparer ++ es)
            (ap (λ n. n ++ map entry_in (filter (is_before (length u.asks + k)) p.late)) (sym (unnumbered (length s.asks + 1) new))
            ∙ sym (map-append entry_in (additions_after (length s.asks + 1) new) (filter (is_before (length u.asks + k)) p.late))
            ∙ ap (map entry_in) (sym (sorted k)))

        led_on : (k : ℕ) → k ≤ suc p.count → HasInvariant sums (s.asks ++ take k (q ∷ p.rest)) (parts.last (after_all parts setup f (map (reply_to sums) (take k (q ∷ p.rest)))).comparer)
        led_on zero h = here
        led_on (suc k) h =
            let rs : List Reply = map (reply_to sums) (take k p.rest) in
            let asks : u.asks ++ take k p.rest ≡ s.asks ++ (q ∷ take k p.rest) = ap (λ qs. qs ++ take k p.rest) t.asks ∙ append_assoc s.asks (q ∷ []) (take k p.rest) in
            subst (λ m. HasInvariant sums (s.asks ++ (q ∷ take k p.rest)) (parts.last m.comparer)) (sym (on rs))
            (subst (λ qs. HasInvariant sums qs (parts.last (after_all parts setup g rs).comparer)) asks (p.led k (omega (arith, h))))

        known_on : (k : ℕ) → k < suc p.count → IfSome (slice_get (q ∷ p.rest) k) (λ q. IsSome (cost_asked sums q))
        known_on zero h = some_known (cost_asked sums q) x known
        known_on (suc k) h = p.known k (omega (arith, h))

  left_of : Machine S → ℕ
  left_of f = (view_of parts setup f).left

  pub plays : (fuel : ℕ) (f : Machine S) (s : PlainState) → Sound f s → IsCounted s → (view_of parts setup f).left < fuel → PlaysFrom f s
  plays zero f s k c h = absurd (omega (arith, h))
  plays (suc fuel) f s k c h = at_stage (λ g u. plays fuel g u) (parts.stage f.comparer) refl
    where
      IH : Type 0
      IH = (g : Machine S) (u : PlainState) → Sound g u → IsCounted u → (view_of parts setup g).left < fuel → PlaysFrom g u

      at_cost : IH → (q : Question) → parts.stage f.comparer ≡ Asking q → (o : Option ℕ) → cost_asked sums q ≡ o → PlaysFrom f s
      at_cost ih q e None w = stopped f s q k c e w
      at_cost ih q e (Some x) w =
          let t : StandsAfter parts fit stands coming better opening setup sums first keeps allowed draws few_steps steady fitting f s q (reply_up_to x q.bound) = stands_after parts fit stands coming better opening setup sums first keeps allowed draws few_steps steady fitting f s q x k e w in
          let n : Replied parts fit setup allowed draws few_steps first steady f q (reply_up_to x q.bound) = replies parts fit setup allowed draws few_steps first steady f q (reply_up_to x q.bound) k.stays_fitting e (fitting q x) in
          let m : (view_of parts setup (next_machine parts setup f (reply_up_to x q.bound))).left < (view_of parts setup f).left = n.falls in
          let counted : IsCounted (answered_state parts setup f (reply_up_to x q.bound) s) = t.counts ∙ ap (λ counts. counts_after counts q.config q.places) c ∙ sym (runs_after-more s.asks q) ∙ ap runs_after (sym t.asks) in
          goes_on_playing f s q x e w (led_here f s k c) t (ih (next_machine parts setup f (reply_up_to x q.bound)) (answered_state parts setup f (reply_up_to x q.bound) s) t.sound counted (omega (arith, h, m)))

      at_stage : IH → (p : AskedStage) → parts.stage f.comparer ≡ p → PlaysFrom f s
      at_stage ih Ready e = done f s k c (ap is_asking e)
      at_stage ih (Asking q) e = at_cost ih q e (cost_asked sums q) refl
      at_stage ih (Decided b) e = done f s k c (ap is_asking e)
