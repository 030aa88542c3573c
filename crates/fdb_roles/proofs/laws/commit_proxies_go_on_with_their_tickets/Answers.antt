use Rattle.fdb_roles.proofs.ProxyLaws.{new_proxies_have_no_entry, requests_come_and_go, proxies_learn_their_tickets}
use Rattle.fdb_roles.proofs.ProxyLaws.{proxies_hear_verdicts, proxies_decide_by_the_rule, messages_are_of_the_entry}
use Rattle.fdb_roles.proofs.ProxyLaws.{proxies_hear_logs, proxies_answer_by_the_rule, answers_are_by_the_rule}
use Rattle.fdb_roles.proofs.ProxyLaws.{batches_are_of_the_last_entry}
use Rattle.fdb_roles.proofs.laws.commit_proxies_go_on_with_their_tickets.Goals as goal

pub returns : goal.returns
returns c = record {
  new = new_proxies_have_no_entry;
  requests = requests_come_and_go;
  learns = proxies_learn_their_tickets;
  in_flight = batches_are_of_the_last_entry;
  hears = proxies_hear_verdicts;
  decides = proxies_decide_by_the_rule;
  messages = messages_are_of_the_entry;
  logged = proxies_hear_logs;
  answers = proxies_answer_by_the_rule;
  by_rule = answers_are_by_the_rule;
}
