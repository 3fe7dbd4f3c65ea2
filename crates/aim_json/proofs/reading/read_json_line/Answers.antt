use Rattle.aim_json.proofs.ReadingLaws.{answers_line, answers_no_text, answers_no_line}
use Rattle.aim_json.proofs.reading.read_json_line.Goals as goal

pub returns : goal.returns
returns c =
    let version = c.args.version in
    let bytes = c.args.line.now in
    let answer = c.json_line.ensures in
    record {
      value = answer;
      ok = answers_line version bytes c.json_line.result answer;
      json = answers_no_text version bytes c.json_line.result answer;
      form = answers_no_line version bytes c.json_line.result answer;
    }
