use Rattle.std.proofs.Common.{None, Some, inl, inr, refl, true≢false, arith}
use Rattle.aim_script_reading.specs.Commands.{Ends as EndsCommand, Puts}
use Rattle.aim.specs.declared.words.Command.TheVariants as command
use Rattle.aim_script.specs.Spellings.{by_words}
use Rattle.aim_replay_command.specs.Spelling.{by_json}
use Rattle.aim.specs.Help.{text_of, versions}
use Rattle.aim.proofs.ObeyLemmas.{prints, reads, replay_completes, tells, tells_usage}
use Rattle.aim.proofs.program.obey.Goals as goal

pub returns-in-Replay : goal.returns-in-Replay
returns-in-Replay g c =
    let e = c.replay.ensures in
    let ends : EndsCommand _ _ c.replay.result = record { read = e.read; write = e.write; source = e.source; sink = e.sink; statuses = e.statuses } in
    reads c.args.told c.in-Some.command command.Replay c.in-Some.is c.in-Replay.is
    (record {
      whole = e.whole;
      ended = e.ended;
      front = e.front;
      nothing = λ no seven. e.memory seven no;
      short = e.short;
      waited = λ four. e.settled (inr (inr (inl four)));
      most = e.most;
      needed = e.needed;
      complete = replay_completes by_words None _ _ c.replay.result e.whole ends;
      ends = ends;
    })
    ends

pub returns-in-Chart : goal.returns-in-Chart
returns-in-Chart g c =
    let e = c.replay-in-Chart.ensures in
    let ends : EndsCommand _ _ c.replay-in-Chart.result = record { read = e.read; write = e.write; source = e.source; sink = e.sink; statuses = e.statuses } in
    reads c.args.told c.in-Some.command (command.Chart c.in-Chart.step) c.in-Some.is c.in-Chart.is
    (record {
      whole = e.whole;
      ended = e.ended;
      front = e.front;
      nothing = λ no seven. e.memory seven no;
      short = e.short;
      waited = λ four. e.settled (inr (inr (inl four)));
      most = e.most;
      needed = e.needed;
      complete = replay_completes by_words (Some c.in-Chart.step) _ _ c.replay-in-Chart.result e.whole ends;
      ends = ends;
    })
    ends

pub returns-in-ReplayJson : goal.returns-in-ReplayJson
returns-in-ReplayJson g c =
    let e = c.replay-in-ReplayJson.ensures in
    let ends : EndsCommand _ _ c.replay-in-ReplayJson.result = record { read = e.read; write = e.write; source = e.source; sink = e.sink; statuses = e.statuses } in
    reads c.args.told c.in-Some.command command.ReplayJson c.in-Some.is c.in-ReplayJson.is
    (record {
      whole = e.whole;
      ended = e.ended;
      front = e.front;
      nothing = λ no. absurd (true≢false no);
      short = e.short;
      waited = λ four. e.settled (inr (inr (inl four)));
      most = e.most;
      needed = e.needed;
      complete = replay_completes by_json None _ _ c.replay-in-ReplayJson.result e.whole ends;
      ends = ends;
    })
    ends

pub returns-in-Session : goal.returns-in-Session
returns-in-Session g c = reads c.args.told c.in-Some.command command.Session c.in-Some.is c.in-Session.is c.session.ensures c.session.ensures.ends

pub returns-in-Drive : goal.returns-in-Drive
returns-in-Drive g c = reads c.args.told c.in-Some.command (command.Drive c.in-Drive.workers) c.in-Some.is c.in-Drive.is c.drive.ensures c.drive.ensures.ends

pub returns-in-Grid : goal.returns-in-Grid
returns-in-Grid g c = reads c.args.told c.in-Some.command (command.Grid c.in-Grid.workers) c.in-Some.is c.in-Grid.is c.grid.ensures c.grid.ensures.ends

pub returns-in-Shards : goal.returns-in-Shards
returns-in-Shards g c = reads c.args.told c.in-Some.command (command.Shards c.in-Shards.workers) c.in-Some.is c.in-Shards.is c.shards.ensures c.shards.ensures.ends

pub returns-in-Mail : goal.returns-in-Mail
returns-in-Mail g c = reads c.args.told c.in-Some.command (command.Mail c.in-Mail.workers) c.in-Some.is c.in-Mail.is c.mail.ensures c.mail.ensures.ends

pub returns-in-Generate : goal.returns-in-Generate
returns-in-Generate g c =
    let e = c.generate.ensures in
    prints c.args.told c.in-Some.command (command.Generate c.in-Generate.number c.in-Generate.count) c.in-Some.is c.in-Generate.is (
      refl,
      record {
        whole = λ zero. let x = e.whole zero in (x.text, x.is, x.written);
        front = λ five. let x = e.front five in (x.text, x.is, x.written);
        nothing = e.nothing;
        statuses = e.statuses;
      },
    )
    e.statuses e.write (omega arith) e.sink

pub returns-in-Traffic : goal.returns-in-Traffic
returns-in-Traffic g c =
    let e = c.print_traffic.ensures in
    prints c.args.told c.in-Some.command (command.Traffic c.in-Traffic.number c.in-Traffic.count) c.in-Some.is c.in-Traffic.is (
      refl,
      record {
        whole = λ zero. (_, refl, e.whole zero);
        front = λ five. (_, refl, e.front five);
        nothing = e.nothing;
        statuses = e.statuses;
      },
    )
    e.statuses e.write (omega arith) e.sink

pub returns-in-Help : goal.returns-in-Help
returns-in-Help g c =
    let told : Puts (text_of c.in-Help.topic) 0 _ _ _ _ _ = rw c.text.ensures at c.put_text-in-Help.ensures.puts in
    tells (text_of c.in-Help.topic) c.args.told c.in-Some.command (command.Help c.in-Help.topic) c.in-Some.is c.in-Help.is (refl, told) told (omega arith) c.put_text-in-Help.ensures.sink

pub returns-in-Version : goal.returns-in-Version
returns-in-Version g c =
    let e = c.put_text-in-Version.ensures in
    tells versions c.args.told c.in-Some.command command.Version c.in-Some.is c.in-Version.is (refl, e.puts) e.puts (omega arith) e.sink

pub returns-in_default : goal.returns-in_default
returns-in_default g c = tells_usage c.args.told c.in_default.is refl c.put_text.ensures.puts (omega arith) c.put_text.ensures.sink
