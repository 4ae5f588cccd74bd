-- What a server keeps at first is what the definitions give from no entry.
use Rattle.std.proofs.Common.{◌≡◌, ℕ, zero, suc, refl, sym, ap, subst, [], length, get_or, Option, Some, None}
use Rattle.std.specs.Prelude.{replicate}
use Rattle.bus_semantics.specs.Common.{length-replicate, Plan, queue_of}
use Rattle.client_server.specs.declared.point.Point.{Point}
use Rattle.client_server.specs.Kept as calls
use Rattle.client_server.specs.Points.{is_started, new_point}
use Rattle.client_server.proofs.Asked.{none_asked}
use Rattle.server_objects.specs.Kept.{opening}
use Rattle.server_objects.specs.Layout.{server_in, points_of, IsServer}
use Rattle.server_objects.specs.Plans.{IsOfPlan}
use Rattle.server_objects.specs.Standing.{PointStands, DirectStands, CallsStand, Keeps}

-- each point is new, and so is one that there is not
pub new_at : (n i : ℕ) → get_or (replicate n new_point) i new_point ≡ new_point
new_at zero i = refl
new_at (suc n) zero = refl
new_at (suc n) (suc i) = new_at n i

module _ (p : Plan) (object : ℕ) where
  abbrev s : ℕ
  s = server_in p object

  abbrev first : calls.Kept
  first = (opening p object).served

  new_stands : (q : ℕ) → PointStands p q new_point []
  new_stands q = record { outstanding = refl; request = λ v is. absurd (cc is); answer = refl; code = refl; due = refl }

  calls_open : (o : Option ℕ) → CallsStand o p s (points_of p s) first []
  calls_open None = λ i q there. subst (λ t. DirectStands p s q t []) (sym (new_at (length (points_of p s)) i)) (record { rest = refl; many = refl; opened = refl; named = λ r is. absurd (cc is) })
  calls_open (Some most) = record {
    asked = none_asked first.points [] refl;
    requests = record { rest = refl; many = refl; opened = refl; named = λ r is. absurd (cc is) };
    opened = refl;
    started = λ i. ap (λ (t : Point). is_started t.stage) (new_at (length (points_of p s)) i);
  }

  pub server_opens : IsServer p object → Keeps p object (opening p object) []
  server_opens is = record {
    is_server = is;
    points = refl;
    event = refl;
    returns = refl;
    awaited = refl;
    queue = refl;
    many = length-replicate (length (points_of p s)) new_point;
    each = λ i q there. subst (λ t. PointStands p q t []) (sym (new_at (length (points_of p s)) i)) (new_stands q);
    calls_stand = calls_open (queue_of p s);
  }

  pub opens_planned : IsServer p object → IsOfPlan p object (opening p object)
  opens_planned is = record { is_server = is; points = refl; event = refl; returns = refl; awaited = refl; queue = refl; many = length-replicate (length (points_of p s)) new_point }
