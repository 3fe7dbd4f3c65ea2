-- Worked scripts of JSON lines.
use Rattle.std.proofs.Common.{◌≡◌, codes, None, refl}
use Rattle.std.specs.Fmt.{digits}
use Rattle.std.specs.Str.{chars, is_utf8}
use Rattle.serde_json.proofs.OnLiterals.{serde_json_on_literals}
use Rattle.aim_io.specs.Lines.{outcomes_from}
use Rattle.aim_messages.specs.Lines.{all_lanes}
use Rattle.aim_script.specs.Said.{layout_of}
use Rattle.aim_replay_command.specs.Texts.{text_by}
use Rattle.aim_replay_command.specs.Spelling.{by_json}

pub no_line_s_value : text_by by_json None (codes "{\"form\":\"aim\"}\n") ≡ codes "{\"bad\":1,\"kind\":\"form\"}\n"
unfolding digits outcomes_from layout_of serde_json_on_literals is_utf8 chars all_lanes
no_line_s_value = refl

pub no_json : text_by by_json None (codes "aim 1\n") ≡ codes "{\"bad\":1,\"kind\":\"json\"}\n"
unfolding digits outcomes_from layout_of serde_json_on_literals is_utf8 chars all_lanes
no_json = refl

pub an_empty_line : text_by by_json None (codes "{\"form\":\"aim\",\"n\":1}\n\n") ≡ codes "{\"bad\":2,\"kind\":\"json\"}\n"
unfolding digits outcomes_from layout_of serde_json_on_literals is_utf8 chars all_lanes
an_empty_line = refl

pub nothing : text_by by_json None (codes "") ≡ codes "{\"bad\":1,\"kind\":\"end\"}\n"
unfolding digits outcomes_from layout_of serde_json_on_literals is_utf8 chars all_lanes
nothing = refl

pub another_version : text_by by_json None (codes "{\"form\":\"aim\",\"n\":5}\n") ≡ codes "{\"bad\":1,\"kind\":\"version\"}\n"
unfolding digits outcomes_from layout_of serde_json_on_literals is_utf8 chars all_lanes
another_version = refl

pub out_of_order : text_by by_json None (codes "{\"form\":\"aim\",\"n\":1}\n{\"form\":\"begin\"}\n") ≡ codes "{\"bad\":2,\"kind\":\"order\"}\n"
unfolding digits outcomes_from layout_of serde_json_on_literals is_utf8 chars all_lanes
out_of_order = refl

pub too_many_vehicles : text_by by_json None (codes "{\"form\":\"aim\",\"n\":1}\n{\"form\":\"grid\",\"half\":450,\"n\":4,\"side\":4000,\"spacing\":100,\"spans\":4096,\"static\":0}\n{\"clearance\":20,\"edge\":0,\"form\":\"times\",\"horizon\":1500,\"internal\":0,\"longest\":25}\n{\"form\":\"lanes\",\"n\":2}\n{\"form\":\"move\",\"lane\":0,\"m\":40,\"shape\":\"line\",\"turn\":\"straight\",\"x0\":0,\"x1\":4000,\"y0\":1500,\"y1\":1500}\n{\"form\":\"move\",\"lane\":1,\"m\":40,\"shape\":\"line\",\"turn\":\"straight\",\"x0\":2500,\"x1\":2500,\"y0\":0,\"y1\":4000}\n{\"form\":\"policy\",\"kind\":\"fcfs\",\"name\":\"plain\"}\n{\"form\":\"vehicles\",\"n\":65537}\n") ≡ codes "{\"limit\":\"vehicles\"}\n"
unfolding digits outcomes_from layout_of serde_json_on_literals is_utf8 chars all_lanes
too_many_vehicles = refl

pub first_confirm : text_by by_json None (codes "{\"form\":\"aim\",\"n\":1}\n{\"form\":\"grid\",\"half\":450,\"n\":4,\"side\":4000,\"spacing\":100,\"spans\":4096,\"static\":0}\n{\"clearance\":20,\"edge\":0,\"form\":\"times\",\"horizon\":1500,\"internal\":0,\"longest\":25}\n{\"form\":\"lanes\",\"n\":2}\n{\"form\":\"move\",\"lane\":0,\"m\":40,\"shape\":\"line\",\"turn\":\"straight\",\"x0\":0,\"x1\":4000,\"y0\":1500,\"y1\":1500}\n{\"form\":\"move\",\"lane\":1,\"m\":40,\"shape\":\"line\",\"turn\":\"straight\",\"x0\":2500,\"x1\":2500,\"y0\":0,\"y1\":4000}\n{\"form\":\"policy\",\"kind\":\"fcfs\",\"name\":\"plain\"}\n{\"form\":\"policy\",\"kind\":\"light\",\"name\":\"lights\"}\n{\"form\":\"phase\",\"green\":80,\"lanes\":[0],\"red\":20}\n{\"form\":\"phase\",\"green\":80,\"lanes\":[1],\"red\":20}\n{\"form\":\"policy\",\"kind\":\"emerg\",\"name\":\"siren\"}\n{\"form\":\"vehicles\",\"n\":8}\n{\"form\":\"begin\"}\n{\"form\":\"event\",\"vehicle\":0,\"moment\":0,\"message\":{\"kind\":\"request\",\"seq\":1,\"lane\":0,\"turn\":\"straight\",\"arrive\":10,\"speed\":500,\"max\":500,\"accel\":0,\"length\":1000,\"width\":700,\"class\":\"car\"}}\n{\"form\":\"end\"}\n") ≡ codes "{\"act\":{\"accel\":0,\"arrive\":10,\"class\":\"car\",\"kind\":\"request\",\"lane\":0,\"length\":1000,\"max\":500,\"seq\":1,\"speed\":500,\"turn\":\"straight\",\"width\":700},\"caller\":0,\"moment\":0,\"position\":0,\"reply\":{\"early\":0,\"id\":0,\"kind\":\"confirm\",\"last\":20,\"late\":0,\"start\":10,\"trial\":\"steady\"}}\n{\"end\":1}\n"
unfolding digits outcomes_from layout_of serde_json_on_literals is_utf8 chars all_lanes
first_confirm = refl
