use Rattle.std.proofs.Common.{◌≡◌, ◌∙◌, sym, ap, ◌-◌, List, length, slice_get, refl, rules}
use Rattle.fdb_resolver.specs.declared.part.Item.{Item}
use Rattle.fdb_proxy.specs.Held.{is_at}
use Rattle.fdb_proxy.proofs.HeldLemmas.{opened-new, opened-old}
use Rattle.fdb_proxy.proofs.parting.open_item.Goals as goal
use Rattle.fdb_proxy.proofs.parting.open_item.Goals.{then-not-ends_at+in_ok-push, else-not-ends_at}

pub returns-clause-answers : goal.returns-clause-answers
returns-clause-answers c held before below ends =
    let told : c.ends_at.result
    ≡ is_at c.args.place (slice_get c.args.items.now.items (length c.args.items.now.items - 1)) =
    c.ends_at.ensures
    ∙ ap (λ (list : List Item). is_at c.args.place (slice_get list (length list - 1))) c.as_slice.ensures.value in
    elim c.if-not-ends_at.branch [
      | then-not-ends_at+in_ok-push w ↦ opened-new c.args.place c.args.reading held before c.args.items.now.items
          c.if-not-ends_at.items.items _ below ends
          record {
            place = c.args.place;
            read_version = c.args.reading.read_version;
            has_reads = c.args.reading.has_reads;
            reads = w.new.result;
            writes = w.new-then-not-ends_at.result;
          }
          (sym told ∙ w.if-not-ends_at.true)
          (ap (λ v. v.items) w.items-is ∙ w.in_ok-push.ensures.items) (search rules) refl refl refl w.new.ensures
          w.new-then-not-ends_at.ensures
      | else-not-ends_at w ↦ opened-old c.args.place c.args.reading held before c.args.items.now.items
          c.if-not-ends_at.items.items _ below ends (sym told ∙ w.if-not-ends_at.false)
          (ap (λ v. v.items) w.items-is) (search rules)
    ]
