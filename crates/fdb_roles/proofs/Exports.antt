-- The lemmas that proofs of other crates cite, and no others.
pub use Rattle.fdb_roles.proofs.AllLemmas.{all-at, all-both, all-drop, all-map, all-next, all-push, all-replicate}
pub use Rattle.fdb_roles.proofs.AllLemmas.{all-set, all-take, contains-item, item-contained, within-item}
pub use Rattle.fdb_roles.proofs.BatchStages.{IsLearnt, asked, conflicts-decided, is-learnt, messages-decided}
pub use Rattle.fdb_roles.proofs.BatchStages.{outcomes-decided, ticket-fits, ticket-learns}
pub use Rattle.fdb_roles.proofs.BodyLemmas.{length-answers, length-outcomes_on}
pub use Rattle.fdb_roles.proofs.BookLemmas.{below-last, entries-take, last-above, last-push, last-risen}
pub use Rattle.fdb_roles.proofs.BookLemmas.{horizon-within, last_horizon-push, rise-lower, rise-take}
pub use Rattle.fdb_roles.proofs.BookLemmas.{seen-before-last}
pub use Rattle.fdb_roles.proofs.BookLemmas.{seen-front, seen_before-next, take-next, take-take}
pub use Rattle.fdb_roles.proofs.CommittedLaws.{answered-at, history-of, reads_of_the_committed_stand}
pub use Rattle.fdb_roles.proofs.ExtendsLemmas.{Extends, history-earlier, map-extends}
pub use Rattle.fdb_roles.proofs.FaultLemmas.{answers-by, answers-fault, given-fault, gives, hands-on, lacks-memory}
pub use Rattle.fdb_roles.proofs.FaultLemmas.{refused-fault}
pub use Rattle.fdb_roles.proofs.FrontLaws.{fronts_have_one_run}
pub use Rattle.fdb_roles.proofs.ListLemmas.{each-push, each-set, front-at, last-at, made-push, map-at, map-set}
pub use Rattle.fdb_roles.proofs.ListLemmas.{one-item, read-there, set-here, set-other}
pub use Rattle.fdb_roles.proofs.LogLemmas.{count-messages, gives-messages, gives-through, kept-popped, new-log}
pub use Rattle.fdb_roles.proofs.LogLemmas.{new-shard, shard-applied, shard-forgot}
pub use Rattle.fdb_roles.proofs.MoveLemmas.{dated_moves-append, dated_moves-push, entries-behind, handed-count}
pub use Rattle.fdb_roles.proofs.MoveLemmas.{handed-other, handed-own, moves_in-push, ticket-after}
pub use Rattle.fdb_roles.proofs.PageLemmas.{first-again, first-few, first-full, first-left, first-none, page-first}
pub use Rattle.fdb_roles.proofs.PlaceLemmas.{outcome-by-rule, place-by-rule, place-found, place-there}
pub use Rattle.fdb_roles.proofs.ProxyLaws.{answers_are_by_the_rule, messages_are_of_the_entry}
pub use Rattle.fdb_roles.proofs.ProxyLaws.{new_proxies_have_no_entry, proxies_answer_by_the_rule}
pub use Rattle.fdb_roles.proofs.ProxyLaws.{proxies_decide_by_the_rule, proxies_hear_logs, proxies_hear_verdicts}
pub use Rattle.fdb_roles.proofs.ProxyLaws.{proxies_learn_their_tickets, requests_come_and_go, stays}
pub use Rattle.fdb_roles.proofs.ResolverLemmas.{are-parts, follows, history, is-part, may-follow, may-take}
pub use Rattle.fdb_roles.proofs.ResolverLemmas.{new-resolver, same-parts, takes}
pub use Rattle.fdb_roles.proofs.RoleExamplesLemmas.{an_empty_shard_does_not_serve}
pub use Rattle.fdb_roles.proofs.RoleLaws.{log_goes_on, resolver_goes_on, sequencer_goes_on, shard_goes_on_by_its_log}
pub use Rattle.fdb_roles.proofs.RoleStartLaws.{log_pops, sequencer_moves, sequencer_reports, sequencer_starts}
pub use Rattle.fdb_roles.proofs.RoleStartLaws.{sequencer_windows, shard_starts}
pub use Rattle.fdb_roles.proofs.RunLaws.{entries-below, entries-linked, entries-rising, front-version, map-between}
pub use Rattle.fdb_roles.proofs.RunLaws.{serial-front, versions-apart, versions-ordered}
pub use Rattle.fdb_roles.proofs.StartLemmas.{legal-from, none-unlearnt}
pub use Rattle.fdb_roles.proofs.TakenLemmas.{kept-tag, log-next, made-at, take-both}
pub use Rattle.fdb_roles.proofs.ValueLemmas.{get-copy, value_after_op}
