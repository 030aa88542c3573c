use Rattle.fdb_machine.proofs.headline.ExamplesLemmas.{only_the_first_is_serialized, read_only_at_its_version}
use Rattle.fdb_machine.proofs.headline.ExamplesLemmas.{after_a_version, only_ordinary_reads_count, begun_by_serving}
use Rattle.fdb_machine.proofs.headline.ExamplesLemmas.{forgetful_roles_do_not_keep, read_off_the_trace, traced}
use Rattle.fdb_machine.proofs.headline.ExamplesLemmas.{shards_go_on_and_forget, each_served_version_counts}
use Rattle.fdb_machine.proofs.headline.ExamplesLemmas.{each_operation_is_noted, read_at_two_proxies, read_off_the_roles}
use Rattle.fdb_roles.proofs.Exports.{an_empty_shard_does_not_serve}
use Rattle.fdb_machine.proofs.headline.FailureExamplesLemmas.{failed_roles_refuse, reads_ask_their_shards}
use Rattle.fdb_machine.proofs.headline.FailureExamplesLemmas.{readers_use_no_proxy, the_steps_own_role_fails}
use Rattle.fdb_machine.proofs.headline.FailureExamplesLemmas.{who_answers_has_not_failed, failed_proxies_tell_nothing}
use Rattle.fdb_machine.proofs.headline.MoveExamplesLemmas.{moves_take_effect_with_the_next_entry}
use Rattle.fdb_machine.proofs.headline.MoveExamplesLemmas.{the_span_begins_at_the_horizon, the_later_move_counts}
use Rattle.fdb_machine.proofs.headline.AnswerExamplesLemmas.{other_versions_are_no_answers}
use Rattle.fdb_machine.proofs.headline.AnswerExamplesLemmas.{other_verdicts_are_no_answers}
use Rattle.fdb_machine.proofs.headline.AnswerExamplesLemmas.{early_decisions_are_no_answers}
use Rattle.fdb_machine.proofs.headline.AnswerExamplesLemmas.{early_messages_are_no_answers}
use Rattle.fdb_machine.proofs.headline.AnswerExamplesLemmas.{other_outcomes_are_no_answers, messages_are_due}
use Rattle.fdb_machine.proofs.headline.ScriptExamplesLemmas.{worked_scripts_are_traces}
use Rattle.fdb_machine.proofs.headline.UnreadableExamplesLemmas.{placeholders_are_no_answers}
use Rattle.fdb_machine.proofs.headline.UnreadableExamplesLemmas.{unreadable_reads_are_refused}
use Rattle.fdb_machine.proofs.headline.WindowExamplesLemmas.{windows_are_read, windows_hold_from_the_next_entry}
use Rattle.fdb_machine.proofs.laws.worked_examples.Goals as goal

pub returns : goal.returns
returns c = record {
  spots = only_the_first_is_serialized;
  read_only = read_only_at_its_version;
  after = after_a_version;
  shard = an_empty_shard_does_not_serve;
  ordinary = only_ordinary_reads_count;
  begun = begun_by_serving;
  roles = forgetful_roles_do_not_keep;
  readings = read_off_the_trace;
  traces = traced;
  shards = shards_go_on_and_forget;
  served = each_served_version_counts;
  operations = each_operation_is_noted;
  proxies = read_at_two_proxies;
  progress = read_off_the_roles;
  moves = moves_take_effect_with_the_next_entry;
  span = the_span_begins_at_the_horizon;
  overlap = the_later_move_counts;
  scripts = worked_scripts_are_traces;
  versions = other_versions_are_no_answers;
  verdicts = other_verdicts_are_no_answers;
  decisions = early_decisions_are_no_answers;
  messages = early_messages_are_no_answers;
  outcomes = other_outcomes_are_no_answers;
  due = messages_are_due;
  refused = failed_roles_refuse;
  asked = reads_ask_their_shards;
  readers = readers_use_no_proxy;
  own = the_steps_own_role_fails;
  answered = who_answers_has_not_failed;
  in_flight = failed_proxies_tell_nothing;
  windows = windows_hold_from_the_next_entry;
  horizons = windows_are_read;
  unreadable = unreadable_reads_are_refused;
  placeholders = placeholders_are_no_answers;
}
