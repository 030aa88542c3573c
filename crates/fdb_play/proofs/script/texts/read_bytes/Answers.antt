use Rattle.std.proofs.Common.{◌≡◌, ◌++◌, ◌∷◌, []}
use Rattle.fdb_play.proofs.lemmas.Texts.{put_all-put_before}
use Rattle.fdb_play.proofs.script.texts.read_bytes.Goals as goal

pub loop-rest-preserved : goal.loop-rest-preserved
loop-rest-preserved c =
    let first = c.in-Some.ensures.value in
    let pushed : c.push.new.self.items ≡ c.loop-rest.bytes.items ++ c.in-Some.byte ∷ [] =
    (c.in_ok-push-in-Some.ensures).items in
    rw (c.loop-rest.invariant, first, pushed) (put_all-put_before _ _ _)
