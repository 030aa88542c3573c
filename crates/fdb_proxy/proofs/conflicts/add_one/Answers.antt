use Rattle.std.proofs.Common.{◌≡◌, ◌∙◌, ap, ◌<◌, ◌≤◌, length, get_or, rules}
use Rattle.fdb_keys.specs.Insertion.{with_ranges}
use Rattle.fdb_proxy.proofs.JoiningLemmas.{set-joined, set-past}
use Rattle.fdb_proxy.proofs.conflicts.add_one.Goals as goal

pub returns-in_ok-add_set : goal.returns-in_ok-add_set
returns-in_ok-add_set c count all before is =
    let inside : c.args.place < length c.args.conflicts.now = search rules in
    let read : c.index-as_slice-at.result ≡ get_or c.args.conflicts.now c.args.place c.index-as_slice-at.result =
    search rules in
    let copied : c.in_ok-joined.joined ≡ c.index-as_slice-at.result = search rules in
    let added : c.share.new.self ≡ with_ranges c.args.found.now c.in_ok-joined.joined = search rules in
    set-joined count all before c.args.place c.args.found.now c.args.conflicts.now c.set.new.self
    c.index-as_slice-at.result c.share.new.self is inside
    (added ∙ ap (with_ranges c.args.found.now) (copied ∙ read)) c.set.ensures

pub returns-else-at-len : goal.returns-else-at-len
returns-else-at-len c count all before is =
    let beyond : length c.args.conflicts.now ≤ c.args.place = search rules in
    set-past count all before c.args.place c.args.found.now c.args.conflicts.now is beyond
