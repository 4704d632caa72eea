use Rattle.tuner.proofs.PromiseLemmas.{cause_of, starts_of, badly_written, headline_of, abort_sentence_of, prints_first, ending_of, refuses_misused, refuses_faulty, refuses_unseated, complete_of}
use Rattle.tuner.proofs.tuning.tune.Goals as goal

pub returns-clause-headline : goal.returns-clause-headline
returns-clause-headline g c = headline_of _ _ _ _ c.conduct.ensures.ending

pub returns-clause-starts : goal.returns-clause-starts
returns-clause-starts g c = starts_of _ _ _ _ c.conduct.ensures.ending

pub returns-clause-cause : goal.returns-clause-cause
returns-clause-cause g c = cause_of _ _ _ _ c.conduct.ensures.ending

pub returns-clause-write_fault : goal.returns-clause-write_fault
returns-clause-write_fault g c = badly_written _ _ _ _ c.conduct.ensures.ending

pub returns-clause-usage : goal.returns-clause-usage
returns-clause-usage g c = refuses_misused _ _ (cause_of _ _ _ _ c.conduct.ensures.ending)

pub returns-clause-bad_file : goal.returns-clause-bad_file
returns-clause-bad_file g c = refuses_faulty _ _ (cause_of _ _ _ _ c.conduct.ensures.ending)

pub returns-clause-too_few : goal.returns-clause-too_few
returns-clause-too_few g c = refuses_unseated _ _ (cause_of _ _ _ _ c.conduct.ensures.ending)

pub returns-clause-complete : goal.returns-clause-complete
returns-clause-complete g c = complete_of _ _ (cause_of _ _ _ _ c.conduct.ensures.ending)

pub returns-clause-ending : goal.returns-clause-ending
returns-clause-ending g c = ending_of _ _ _ _ c.conduct.ensures.ending

pub returns-clause-aborts : goal.returns-clause-aborts
returns-clause-aborts g c = abort_sentence_of _ _ _ _ c.conduct.ensures.ending

pub returns-clause-first_entries : goal.returns-clause-first_entries
returns-clause-first_entries g c = prints_first _ _ _ _ c.conduct.ensures.ending
